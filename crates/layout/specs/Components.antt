-- Components in a run, such as reading fills and opening and writing take.
use Rattle.std.specs.Prelude.{ℕ, ◌+◌, ◌*◌, cond, List, [], ◌∷◌, ltb, get_or}
use Rattle.sequences.specs.Below.{tabulate}
use Rattle.layout.specs.declared.Component.{Component}
use Rattle.layout.specs.Places.{most_components, component_width}

-- the component that stands where a day has none
abbrev pub blank : Component
blank = record { code = 0; quantity = 0; flag = 0; premium = record { 0 = 0 }; discount = record { 0 = 0 }; amount = record { 0 = 0 } }

-- the i-th component of a run, and a component's numbers in this order
unfoldable pub component_at : List ℕ → ℕ → Component
component_at run i =
    record {
      code = get_or run (component_width * i) 0;
      quantity = get_or run (component_width * i + 1) 0;
      flag = get_or run (component_width * i + 2) 0;
      premium = record { 0 = get_or run (component_width * i + 3) 0 };
      discount = record { 0 = get_or run (component_width * i + 4) 0 };
      amount = record { 0 = get_or run (component_width * i + 5) 0 };
    }

unfoldable pub component_numbers : Component → List ℕ
component_numbers c = c.code ∷ c.quantity ∷ c.flag ∷ c.premium.0 ∷ c.discount.0 ∷ c.amount.0 ∷ []

-- a day's component places: n components, then blank ones
unfoldable pub places_of : (ℕ → Component) → ℕ → List Component
places_of component n = tabulate (λ i. cond (ltb i n) (component i) blank) most_components
