-- "A day to compare with": its cases (a) to (i), and the same day with unlike rates, computed from the definitions as the rows of one
-- check.
use Rattle.std.specs.Prelude.{ℕ, ◌*◌, ◌≡◌, refl, Bool, true, false, List, [], ◌∷◌, ◌++◌, eqb, negsuc, take, drop, replicate}
use Rattle.sequences.specs.Below.{sum_below, any_below, all_below, first_below, join_below, tabulate}
use Rattle.sequences.specs.Every.{every, inside}
use Rattle.sequences.specs.Checks.{Reply, answering, passes, is_accepted}
use Rattle.sequences.specs.Stretch.{stretch_of, over}
use Rattle.units.specs.Units.{rounded, premium, discount, ratio_bound}
use Rattle.flags.specs.Table.{table_numbers, table_of, says, entry, is_binary, use_fits, shortage_fits, row_fits, table_fault, flag_table}
use Rattle.fund.specs.Fund.{cash_in_range, limit_in_range, limits_in_range, fund_in_range, limit_of}
use Rattle.fund.specs.Components.{outside_group, zero_unless, used_within, component_in_range, above_code, fits, code_before, fault_at, component_fault}
use Rattle.layout.specs.Places.{record_width, report_width, day_width}
use Rattle.layout.specs.Components.{component_at, places_of}
use Rattle.layout.specs.Book.{head_at, lots_at, account, head_total, line_total}
use Rattle.rules.specs.Lines.{code_of, quantity, column, creation_rate, redemption_rate, creation_amount, redemption_amount, price_of}
use Rattle.rules.specs.Opening.{Opening, cash_opened, held_opened, opened_total, opened_cash, day_sizes_fit, size_checks, table_checks, fund_checks, over_at}
use Rattle.rules.specs.Opening.{total_fault, total_checks, day_checks, components_opened, lent_sizes_fit, opening_reply, opened_day, opened_stretch, opened_book}
use Rattle.rules.specs.Sound.{opens, fund_still, is_sound}
use Rattle.rules.specs.Trade.{is_investor}
use Rattle.rules.specs.Value.{worth_at, lacks_price, cash_added, cash_taken, worth_before, reference_value, has_value, value_checks, value_reply}
use Rattle.rules.specs.Records.{side_b, side_s, cash_parts, cash_records, stock_record, order_records}
use Rattle.rules.specs.Reports.{present, cash_groups, cash_reports, stock_report, order_reports, turned}
use Rattle.rules.specs.Lent.{Lent, lent_of, rooms_in, too_short, with_order}
use Rattle.layout.specs.Laid.{laid, with_laid}
use Rattle.layout.specs.Records.{flatten, with_records}
use Rattle.layout.specs.Reports.{report_numbers, with_reports}
use Rattle.rules.specs.Orders.{baskets, whole_baskets, form_checks, switch_allows, within_limit, count_of, fund_count, within_limits, permission_checks, need, shanghai_cash, other_cash}
use Rattle.rules.specs.Creation.{available, handed_in, is_short, missing, missing_worth, is_missing, creation_cash, creation_due}
use Rattle.rules.specs.Creation.{ratio_passed, creation_records, first_short, creation_reports, creation_means, creation_checks, creation_reply, created_lists}
use Rattle.rules.specs.Redemption.{delivered, redemption_cash, redemption_paid, units_available, fund_lacks, first_lacking}
use Rattle.rules.specs.Redemption.{redemption_records, redemption_reports, redemption_means, redemption_checks, redemption_reply, redeemed_lists}

abbrev both : Bool → Bool → Bool
both true b = b
both false b = false

abbrev same : List ℕ → List ℕ → Bool
same [] [] = true
same [] (y ∷ ys) = false
same (x ∷ xs) [] = false
same (x ∷ xs) (y ∷ ys) = both (eqb x y) (same xs ys)

-- what the definitions give, and what the paper says
record Row : Type 0 where
  got : List ℕ
  want : List ℕ

abbrev right : Row → Bool
right r = same r.got r.want

abbrev all : (Row → Bool) → List Row → Bool
all f [] = true
all f (r ∷ rs) = both (f r) (all f rs)

-- The day, with a premium and a discount of 000001: the fund has ample stock and cash; account 1 has old 600000 and
-- 600036 as given, ample cash, and the units of one basket.
abbrev basket : ℕ
basket = 1_000_000

abbrev compared_at : ℕ → ℕ → ℕ → ℕ → Opening
compared_at premiumOf000001 discountOf000001 of600000 of600036 =
    record {
      accounts = 2;
      count = 5;
      fund =
          record {
            first_code = 510_300;
            basket_size = basket;
            max_cash_ratio = record { 0 = 5_000 };
            switch = 1;
            estimated_cash = negsuc 33_121;
            limits = replicate 8 0;
          };
      table = table_numbers flag_table;
      components =
          1 ∷ 8_000 ∷ 3 ∷ premiumOf000001 ∷ discountOf000001 ∷ 96_000_000
          ∷ 2 ∷ 1_000 ∷ 4 ∷ 0 ∷ 0 ∷ 8_000_000
          ∷ 600_000 ∷ 5_200 ∷ 1 ∷ 10_000 ∷ 10_000 ∷ 0
          ∷ 600_036 ∷ 3_000 ∷ 0 ∷ 0 ∷ 0 ∷ 0
          ∷ 600_519 ∷ 100 ∷ 2 ∷ 0 ∷ 0 ∷ 150_000_000
          ∷ [];
      holdings =
          1_000_000_000_000 ∷ 1_000_000 ∷ 1_000_000 ∷ 1_000_000 ∷ 1_000_000 ∷ 1_000_000 ∷ 0
          ∷ 1_000_000_000_000 ∷ 0 ∷ 0 ∷ of600000 ∷ of600036 ∷ 0 ∷ basket
          ∷ [];
      book = replicate 42 0;
      prices = replicate 5 0;
      day = replicate day_width 0;
    }

-- the paper's own, where both rates are its r
abbrev compared : ℕ → ℕ → Opening
compared of600000 of600036 = compared_at 10_000 10_000 of600000 of600036

-- yuan 12.000, none, 10.000, 40.000, none
abbrev prices : List ℕ
prices = 12_000 ∷ 0 ∷ 10_000 ∷ 40_000 ∷ 0 ∷ []

abbrev three : Reply → List ℕ
three r = r.number ∷ r.place ∷ r.value ∷ []

abbrev four : Reply → List ℕ
four r = r.number ∷ r.place ∷ r.value ∷ r.reports ∷ []

-- one basket by account 1, with lists of eight records and of so many reports lent: the reply, and the lists after
abbrev lent_for : ℕ → ℕ → Lent
lent_for investor fund = lent_of (replicate (8 * record_width) 0) (replicate (investor * report_width) 0) (replicate (fund * report_width) 0)

abbrev lent : Lent
lent = lent_for 4 4

abbrev create_reply : Opening → List ℕ
create_reply o = four (creation_reply (opened_day o) (opened_book o) prices 1 basket (rooms_in lent))

abbrev create_lists : Opening → Lent
create_lists o = created_lists (opened_day o) (opened_book o) prices 1 basket lent

abbrev create_list : Opening → List ℕ
create_list o = (create_lists o).records

-- what is missing of 600000, the third component
abbrev missing_of : Opening → ℕ
missing_of o = missing (opened_day o) (account (opened_day o) (opened_book o) 1) 1 2

abbrev redeem_reply : Opening → List ℕ
redeem_reply o = four (redemption_reply (opened_day o) (opened_book o) prices 1 basket (rooms_in lent))

abbrev redeem_lists : Opening → Lent
redeem_lists o = redeemed_lists (opened_day o) (opened_book o) prices 1 basket lent

abbrev redeem_list : Opening → List ℕ
redeem_list o = (redeem_lists o).records

-- the reply of the creation of (e) with room for so many reports
abbrev create_with : ℕ → ℕ → List ℕ
create_with investor fund = four (creation_reply (opened_day (compared 3_072 3_000)) (opened_book (compared 3_072 3_000)) prices 1 basket (rooms_in (lent_for investor fund)))

-- a report without groups, and one of cash in two
abbrev moved : ℕ → ℕ → ℕ → ℕ → List ℕ
moved type side code q = type ∷ side ∷ code ∷ q ∷ replicate 6 0

abbrev paid : ℕ → ℕ → ℕ → List ℕ
paid side shanghai other = 3 ∷ side ∷ 0 ∷ 0 ∷ 1 ∷ shanghai ∷ 2 ∷ other ∷ 0 ∷ 0 ∷ []

-- the reports of (e) and of (f), by the side of the unit and of cash and by that of stock
abbrev created_reports : ℕ → ℕ → List ℕ
created_reports rest stock =
    moved 1 rest 510_300 1_000_000 ++ (moved 2 stock 600_000 3_072 ++ (moved 2 stock 600_036 3_000 ++ paid rest 173_408_000 113_600_000))

abbrev redeemed_reports : ℕ → ℕ → List ℕ
redeemed_reports rest stock =
    moved 1 rest 510_300 1_000_000 ++ (moved 2 stock 600_000 5_200 ++ (moved 2 stock 600_036 3_000 ++ paid rest 150_000_000 94_400_000))

abbrev value_of : Opening → List ℕ
value_of o = three (value_reply (opened_day o) (opened_book o) prices)

abbrev cash_of : ℕ → List ℕ
cash_of c = flatten (cash_records 510_302 side_b c)

-- the reports of an amount of cash, and of a component of which so much moved
abbrev cash_told : ℕ → ℕ → List ℕ
cash_told other shanghai = laid report_numbers (cash_reports side_b (cash_groups other shanghai))

abbrev stock_told : ℕ → ℕ → List ℕ
stock_told of600000 q = laid report_numbers (stock_report (opened_day (compared of600000 3_000)) side_s (λ i. q) 2)

-- the records of (e), and the reply and the records of (f)
abbrev created : List ℕ
created =
    510_300 ∷ 1 ∷ 1_000_000 ∷ 0 ∷ 0
    ∷ 600_000 ∷ 2 ∷ 3_072 ∷ 0 ∷ 0
    ∷ 600_036 ∷ 2 ∷ 3_000 ∷ 0 ∷ 0
    ∷ 510_305 ∷ 1 ∷ 1_000_000 ∷ 113 ∷ 113_000_000
    ∷ 510_305 ∷ 1 ∷ 1 ∷ 600_000 ∷ 600_000
    ∷ 510_302 ∷ 1 ∷ 1_000_000 ∷ 173 ∷ 173_000_000
    ∷ 510_302 ∷ 1 ∷ 1 ∷ 408_000 ∷ 408_000
    ∷ 510_301 ∷ 1 ∷ 1_000_000 ∷ 0 ∷ 0
    ∷ []

abbrev redeemed : List ℕ
redeemed =
    0 ∷ 0 ∷ 8 ∷ 4
    ∷ 510_300 ∷ 2 ∷ 1_000_000 ∷ 0 ∷ 0
    ∷ 600_000 ∷ 1 ∷ 5_200 ∷ 0 ∷ 0
    ∷ 600_036 ∷ 1 ∷ 3_000 ∷ 0 ∷ 0
    ∷ 510_305 ∷ 2 ∷ 1_000_000 ∷ 94 ∷ 94_000_000
    ∷ 510_305 ∷ 2 ∷ 1 ∷ 400_000 ∷ 400_000
    ∷ 510_302 ∷ 2 ∷ 1_000_000 ∷ 150 ∷ 150_000_000
    ∷ 510_302 ∷ 2 ∷ 1 ∷ 0 ∷ 0
    ∷ 510_301 ∷ 2 ∷ 1_000_000 ∷ 0 ∷ 0
    ∷ []

-- the two records of other cash, which stand behind the unit and two of stock
abbrev other_part : List ℕ → List ℕ
other_part list = take (2 * record_width) (drop (3 * record_width) list)

abbrev rows : List Row
rows =
    -- (a) value 4257
    record { got = value_of (compared 3_072 3_000); want = 0 ∷ 0 ∷ 4_257 ∷ [] }
    -- (b) old 600000 of 3072 passes, with eight records; 2128 are missing
    ∷ record { got = missing_of (compared 3_072 3_000) ∷ create_reply (compared 3_072 3_000); want = 2_128 ∷ 0 ∷ 0 ∷ 8 ∷ 4 ∷ [] }
    -- (c) 3071 gives 15
    ∷ record { got = create_reply (compared 3_071 3_000); want = 15 ∷ 0 ∷ 0 ∷ 0 ∷ [] }
    -- (d) 600036 at 2999 gives 9, place 3
    ∷ record { got = create_reply (compared 3_072 2_999); want = 9 ∷ 3 ∷ 0 ∷ 0 ∷ [] }
    -- (e) the creation's records
    ∷ record { got = create_list (compared 3_072 3_000); want = created }
    -- (f) one basket redeemed: other cash 94,400.000, Shanghai 150,000.000 in two records, the second 0
    ∷ record { got = redeem_reply (compared 3_072 3_000) ++ redeem_list (compared 3_072 3_000); want = redeemed }
    -- the reports of (e) and of (f), the investor's and the fund's
    ∷ record { got = (create_lists (compared 3_072 3_000)).investor; want = created_reports 1 2 }
    ∷ record { got = (create_lists (compared 3_072 3_000)).fund; want = created_reports 2 1 }
    ∷ record { got = (redeem_lists (compared 3_072 3_000)).investor; want = redeemed_reports 2 1 }
    ∷ record { got = (redeem_lists (compared 3_072 3_000)).fund; want = redeemed_reports 1 2 }
    -- room for three reports is too little, in either list
    ∷ record { got = create_with 3 4 ++ create_with 4 3; want = 16 ∷ 0 ∷ 0 ∷ 0 ∷ 16 ∷ 0 ∷ 0 ∷ 0 ∷ [] }
    -- cash: none makes no report, and a kind of which there is none leaves no gap
    ∷ record { got = cash_told 0 0 ++ (cash_told 7 0 ++ cash_told 0 5); want = 3 ∷ 1 ∷ 0 ∷ 0 ∷ 2 ∷ 7 ∷ (replicate 4 0 ++ (3 ∷ 1 ∷ 0 ∷ 0 ∷ 1 ∷ 5 ∷ replicate 4 0)) }
    -- a component of which nothing moved makes none
    ∷ record { got = stock_told 600_000 0; want = [] }
    -- (g) cash 999.999 is one record, 1,000.000 two
    ∷ record {
      got = cash_of 999_999 ++ cash_of 1_000_000;
      want =
          510_302 ∷ 1 ∷ 1 ∷ 999_999 ∷ 999_999
          ∷ 510_302 ∷ 1 ∷ 1_000_000 ∷ 1 ∷ 1_000_000
          ∷ 510_302 ∷ 1 ∷ 1 ∷ 0 ∷ 0
          ∷ [];
    }
    -- (h) v = 5, r = 10,000 gives 6
    ∷ record { got = premium 5 10_000 ∷ []; want = 6 ∷ [] }
    -- (i) r = 9,999 gives 5
    ∷ record { got = premium 5 9_999 ∷ []; want = 5 ∷ [] }
    -- the discount of 000001 at 5,000: (e) stays as it is, and (f) pays other cash 99,200.000
    ∷ record { got = create_list (compared_at 10_000 5_000 3_072 3_000); want = created }
    ∷ record {
      got = other_part (redeem_list (compared_at 10_000 5_000 3_072 3_000));
      want = 510_305 ∷ 2 ∷ 1_000_000 ∷ 99 ∷ 99_000_000 ∷ 510_305 ∷ 2 ∷ 1 ∷ 200_000 ∷ 200_000 ∷ [];
    }
    -- its premium at 5,000: (e) takes other cash 108,800.000, and (f) stays as it is
    ∷ record {
      got = other_part (create_list (compared_at 5_000 10_000 3_072 3_000));
      want = 510_305 ∷ 1 ∷ 1_000_000 ∷ 108 ∷ 108_000_000 ∷ 510_305 ∷ 1 ∷ 1 ∷ 800_000 ∷ 800_000 ∷ [];
    }
    ∷ record { got = redeem_reply (compared_at 5_000 10_000 3_072 3_000) ++ redeem_list (compared_at 5_000 10_000 3_072 3_000); want = redeemed }
    -- 5 less a discount of 10,000 is 5, of 10,001 is 4
    ∷ record { got = discount 5 10_000 ∷ discount 5 10_001 ∷ []; want = 5 ∷ 4 ∷ [] }
    ∷ []

pub cases : all right rows ≡ true
unfolding sum_below any_below all_below first_below join_below tabulate every inside answering passes is_accepted stretch_of over
    rounded premium discount ratio_bound table_of says entry is_binary use_fits shortage_fits row_fits table_fault flag_table cash_in_range limit_in_range limits_in_range fund_in_range limit_of
    outside_group zero_unless used_within component_in_range above_code fits code_before fault_at component_fault component_at head_at lots_at head_total line_total
    code_of quantity column creation_rate redemption_rate creation_amount redemption_amount price_of
    cash_opened held_opened opened_total opened_cash day_sizes_fit size_checks table_checks fund_checks over_at total_fault total_checks day_checks
    components_opened places_of lent_sizes_fit opening_reply opened_day opened_stretch opened_book
    opens fund_still is_sound is_investor worth_at lacks_price cash_added cash_taken worth_before reference_value has_value value_checks value_reply
    cash_parts cash_records stock_record order_records laid with_laid flatten with_records with_reports
    present cash_groups stock_report order_reports turned rooms_in too_short with_order
    baskets whole_baskets form_checks switch_allows within_limit count_of fund_count within_limits permission_checks need shanghai_cash other_cash
    available handed_in is_short missing missing_worth is_missing creation_cash creation_due ratio_passed creation_records creation_reports
    first_short creation_means creation_checks creation_reply created_lists
    delivered redemption_cash redemption_paid units_available fund_lacks first_lacking redemption_records redemption_reports redemption_means
    redemption_checks redemption_reply redeemed_lists
cases = refl
