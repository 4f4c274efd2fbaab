-- `text_head::head_fields` meets its contract. The loop's invariant: no field before `k` is at fault, and their figures are kept.
use Rattle.text_head.proofs.Fields.{HeadStands, Fielded}
use Rattle.text_head.proofs.head_fields.Given as goal

abbrev pub invariant-loop-k : goal.invariant-loop-k
invariant-loop-k l = record {
  head : HeadStands l.table l.fields l.text;
  read : Fielded l.fields l.text l.figures l.at l.k;
}
