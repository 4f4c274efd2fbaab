-- The stock that an order moves, read off the day's flag table, a component and its lots, is what the rules say.
use Prim.Native.Nat.{ℕ}
use mathlib.Core.Path.{◌≡◌, refl}
use mathlib.Core.List.{List}
use Rattle.layout.specs.Day.{Day}
use Rattle.layout.specs.Book.{lots_at}
use Rattle.rules.specs.Lines.{component_of, quantity, column}
use Rattle.rules.specs.Orders.{need}
use Rattle.rules.specs.Creation.{available, handed_in}
use Rattle.rules.specs.Redemption.{delivered}
use Rattle.rules.specs.declared.Kind.{Kind}
use Rattle.rules.specs.Kinds.{moved_by}
use Rattle.book.specs.Moved.{moved_of}

pub moved_of_lem : (kind : Kind) (d : Day) (s : List ℕ) (m i : ℕ) → moved_by kind d s m i ≡ moved_of kind d.table (component_of d i) m (lots_at s i)
unfolding moved_by handed_in delivered need available quantity column moved_of
moved_of_lem kind d s m i = refl
