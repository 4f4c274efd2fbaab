-- The answers of a list of calls, in a flat run.
use Rattle.std.specs.Prelude.{ℕ, ◌+◌, ◌*◌, List, get_or, set}
use Rattle.sequences.specs.Checks.{Reply}
use Rattle.layout.specs.Places.{answer_width}

-- the i-th answer put into the answers
unfoldable pub put_reply : List ℕ → ℕ → Reply → List ℕ
put_reply answers i r =
    set
    (set (set (set answers (answer_width * i) r.number) (answer_width * i + 1) r.place) (answer_width * i + 2) r.value)
    (answer_width * i + 3)
    r.reports

-- the reply that four numbers say
abbrev pub reply_in : List ℕ → Reply
reply_in numbers =
    record {
      number = get_or numbers 0 0;
      place = get_or numbers 1 0;
      value = get_or numbers 2 0;
      reports = get_or numbers 3 0;
    }
