use Rattle.std.proofs.Common.{List, [], ◌∷◌, ◌++◌, ap, ◌∙◌, sym, arith}
use Rattle.std.proofs.lemmas.List.FromFn.{map-range_with_len_more}
use Rattle.ob_desk_floor.specs.Seat.{Seat, new_seat}
use Rattle.ob_desk_floor.specs.Desk.{seats_of}
use Rattle.ob_desk_floor.proofs.desk.seats.Goals as goal

pub loop-process-preserved : goal.loop-process-preserved
loop-process-preserved c =
    c.in_ok-push.ensures.items
    ∙ ap (λ (l : List Seat). l ++ c.new.result ∷ []) c.loop-process.invariant
    ∙ ap (λ (s : Seat). seats_of c.loop-process.process c.args.tag ++ s ∷ []) c.new.ensures
    ∙ sym (map-range_with_len_more (λ p. new_seat p c.args.tag) 0 c.loop-process.process c.loop-process.process (omega arith))
