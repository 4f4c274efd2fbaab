-- The lists lent to an order as a struct: the three runs, and what an order leaves in them.
use Rattle.rules.specs.declared.Lists.{Lists}
use Rattle.rules.specs.Lent.{Lent, lent_of}

abbrev pub lent_in : Lists → Lent
lent_in lists = lent_of lists.records.now lists.investor.now lists.fund.now

-- the same lists, in which other numbers stand
abbrev pub left_in : Lists → Lent → Lists
left_in lists left =
    record lists {
      records = record lists.records { now = left.records };
      investor = record lists.investor { now = left.investor };
      fund = record lists.fund { now = left.fund };
    }
