-- The ranges under which no number of a scan wraps, and a flag table that loads.
use Rattle.std.specs.Prelude.{◌≡◌, List, ℕ, ◌+◌, ◌≤◌, ◌<◌, length}
use Rattle.flags.specs.Table.{flag_count, table_fault}
use Rattle.layout.specs.Places.{most_components}
use Rattle.layout.specs.Day.{Day}
use Rattle.layout.specs.Book.{width}
use Rattle.rules.specs.Lines.{component_of, price_of}
use Rattle.rules.specs.Sound.{most_price}
use Rattle.rules.specs.Orders.{most_baskets}
use Rattle.rules.specs.Creation.{available}
use Rattle.order_lines.specs.Lines.{worth_in, Effect}
use Rattle.order_lines.specs.Ready.{Ranged}
use Rattle.order_scan.specs.declared.Scan.{Scan}

-- a scan of i lines, and one line more
pub record Room (t : Scan) (i : ℕ) (x : Effect) : Type 0 where
  pub index : i < most_components
  pub worth : worth_in t.missing + worth_in x.worth ≤ 12_000_000_000_000_000_000
  pub other : t.cash.other.0 + x.cash.other.0 ≤ 12_000_000_000_000_000_000
  pub shanghai : t.cash.shanghai.0 + x.cash.shanghai.0 ≤ 12_000_000_000_000_000_000
  pub records : t.stock_records ≤ i

-- an order of m baskets by an account with the stretch s, from or to the fund with the stretch f
pub record Scannable (d : Day) (s f ps : List ℕ) (m : ℕ) : Type 0 where
  pub count : d.count ≤ most_components
  pub baskets : m ≤ most_baskets
  pub loads : table_fault d.table ≡ flag_count
  pub stretch : length s ≡ width d
  pub fund_stretch : length f ≡ width d
  pub prices_size : length ps ≡ d.count
  pub ranges : (k : ℕ) → k < d.count → Ranged d.table (component_of d k)
  pub prices : (k : ℕ) → k < d.count → price_of ps k ≤ most_price
  pub lots : (k : ℕ) → k < d.count → available s k ≤ 2_000_000_000_000_000_000
