-- `order_records::put_after_stock` meets its contract: the two cash parts and the unit are put one behind another.
use mathlib.Core.Path.{◌∙◌}
use mathlib.Core.List.{[], ◌∷◌}
use Rattle.order_records.specs.Put.{records_after_stock}
use Rattle.order_records.proofs.Laws.{fits_first, fits_next, put_one, put_then}
use Rattle.order_records.proofs.put_after_stock.Goals as goal

pub put_cash-requires : goal.put_cash-requires
unfolding records_after_stock
put_cash-requires g c = fits_first _ _ g.met.S.RecordSink.room_less _ _ _ c.requires.fits

pub put_cash-requires-2 : goal.put_cash-requires-2
unfolding records_after_stock
put_cash-requires-2 g c =
    let less = g.met.S.RecordSink.room_less in
    fits_first _ _ less _ _ _ (fits_next _ _ less _ _ _ c.put_cash.ensures c.requires.fits)

pub push-requires : goal.push-requires
unfolding records_after_stock
push-requires g c =
    let less = g.met.S.RecordSink.room_less in
    fits_next _ _ less _ (_ ∷ []) _ c.put_cash-2.ensures (fits_next _ _ less _ _ _ c.put_cash.ensures c.requires.fits)

pub returns : goal.returns
unfolding records_after_stock
returns g c = put_then _ _ _ _ c.put_cash.ensures (put_then _ _ _ _ c.put_cash-2.ensures ((rw c.record_of.ensures at c.push.ensures) ∙ put_one _ _ _))
