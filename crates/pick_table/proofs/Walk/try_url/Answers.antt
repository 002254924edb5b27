use Rattle.pick_table.proofs.PickLaws.{url_tried}
use Rattle.pick_table.proofs.Walk.try_url.Goals as goal

pub returns : goal.returns
returns c =
    let p = c.place_of.ensures in
    let l = c.pick_from-led.ensures in
    (url_tried p.0 c.pick_from-led.result c.in-Some.is (rw p.2 at l.0) c.is_some.ensures, record { capped = p.1.capped; listed = p.1.listed; memo = rw p.2 at l.1 }, p.2)
