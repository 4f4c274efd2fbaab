-- Value and orders are what the columns make of them: by the day's table, and so under our table by document 01's five rows.
use mathlib.Core.Path.{◌≡◌, refl, ap, fun_ext, ◌∙◌}
use Prim.Native.Nat.{ℕ, ◌<◌}
use native.Mathlib.Omega.{arith}
use Rattle.flags.specs.Table.{FlagTable, flag_table, entry, stock_moves, shortage_in_cash, shanghai, priced}
use Rattle.layout.specs.Day.{Day}
use Rattle.rules.specs.Lines.{component_of, column}
use Rattle.rules.specs.Value as value_rules
use Rattle.rules.specs.Orders as order_rules
use Rattle.rules.specs.Creation as creation_rules
use Rattle.rules.specs.Redemption as redemption_rules
use Rattle.rules.specs.Kinds.{stock_lots, fund_lots, unit_lots, account_cash, fund_cash}
use Rattle.five_flags.specs.Rows.{six_columns, five_entry}
use Rattle.five_flags.specs.Columns.{table_columns, five_columns}
use Rattle.five_flags.specs.AsBefore.{ValueFollows, CreationFollows, RedemptionFollows, ValueAsBefore, CreationAsBefore, RedemptionAsBefore}
use Rattle.five_flags.specs.Orders.{worth_before, reference_value, has_value, value}
use Rattle.five_flags.specs.Orders.{other_cash, shanghai_cash, all_cash, records, reports, moves, order}
use Rattle.five_flags.specs.Orders.{handed_in, first_short, missing, is_missing, missing_worth, ratio_passed, creation_cash, creation_means, creation}
use Rattle.five_flags.specs.Orders.{delivered, redemption_cash, first_lacking, redemption_means, redemption}
use Rattle.five_flags.proofs.Table.{our_columns}
use Rattle.five_flags.proofs.Sound.{sound_as_before}

pub value_follows : ValueFollows
unfolding worth_before reference_value has_value value
    value_rules.worth_at value_rules.lacks_price value_rules.worth_before value_rules.reference_value value_rules.has_value value_rules.value_checks value_rules.value_reply
value_follows d b ps = refl

pub creation_follows : CreationFollows
unfolding worth_before reference_value has_value other_cash shanghai_cash all_cash records reports moves order
    handed_in first_short missing is_missing missing_worth ratio_passed creation_cash creation_means creation
    value_rules.worth_at value_rules.lacks_price value_rules.worth_before value_rules.reference_value value_rules.has_value
    order_rules.other_cash order_rules.shanghai_cash stock_lots fund_lots unit_lots account_cash fund_cash
    creation_rules.handed_in creation_rules.is_short creation_rules.first_short creation_rules.missing creation_rules.is_missing creation_rules.missing_worth
    creation_rules.ratio_passed creation_rules.creation_cash creation_rules.creation_due creation_rules.creation_records creation_rules.creation_reports
    creation_rules.creation_means creation_rules.creation_checks creation_rules.creation_reply creation_rules.creation_moves creation_rules.created_book
    creation_rules.created_lists
creation_follows d b ps a units lent = refl

pub redemption_follows : RedemptionFollows
unfolding other_cash shanghai_cash all_cash records reports moves order delivered redemption_cash first_lacking redemption_means redemption
    order_rules.other_cash order_rules.shanghai_cash stock_lots fund_lots unit_lots account_cash fund_cash
    redemption_rules.delivered redemption_rules.redemption_cash redemption_rules.redemption_paid redemption_rules.fund_lacks redemption_rules.first_lacking
    redemption_rules.redemption_records redemption_rules.redemption_reports redemption_rules.redemption_means redemption_rules.redemption_checks
    redemption_rules.redemption_reply redemption_rules.redemption_moves redemption_rules.redeemed_book redemption_rules.redeemed_lists
redemption_follows d b ps a units lent = refl

-- a day under our table has document 01's columns
module _ (d : Day) (ours : d.table ≡ flag_table) where
  same_column : (k : ℕ) → k < six_columns → column d k ≡ (λ i. five_entry (component_of d i).flag k)
  unfolding column
  same_column k h = fun_ext (λ i. ap (λ (t : FlagTable). entry t (component_of d i).flag k) ours ∙ our_columns _ k h)

  same_columns : table_columns d ≡ five_columns d
  same_columns =
      λ j. record {
        moves_stock = same_column stock_moves (omega arith) j;
        cash_for_shortage = same_column shortage_in_cash (omega arith) j;
        is_shanghai = same_column shanghai (omega arith) j;
        is_priced = same_column priced (omega arith) j;
      }

pub value_as_before : ValueAsBefore
value_as_before d ours b ps =
    value_follows d b ps ∙ rw (sound_as_before d ours b ps, same_columns d ours) refl

pub creation_as_before : CreationAsBefore
creation_as_before d ours b ps a units lent =
    creation_follows d b ps a units lent ∙ rw (sound_as_before d ours b ps, same_columns d ours) refl

pub redemption_as_before : RedemptionAsBefore
redemption_as_before d ours b ps a units lent =
    redemption_follows d b ps a units lent ∙ rw (sound_as_before d ours b ps, same_columns d ours) refl
