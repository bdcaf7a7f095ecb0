-- Each call is made in its turn, and its reply compared with the history's.
use Rattle.std.proofs.Common.{◌≡◌, sym, map, length, get_or, arith, ◌<◌, ◌∙◌, None, add-one}
use Rattle.std.proofs.lemmas.Option.{slice_get-get_or}
use Rattle.std.proofs.lemmas.Bool.{false≢true}
use Rattle.ob_interface.specs.View.{reply_of}
use Rattle.ob_object_run.proofs.InTurn.{Reaches, ends_so, reaches_all, reaches_more, reaches_none, takes_next}
use Rattle.ob_object_run.proofs.Placing.{begun_here, call_of_list, ended_here, not_ended, end_at}
use Rattle.ob_object_run.proofs.order_checker.replay.Goals as goal
use Rattle.ob_object_run.proofs.order_checker.replay.Goals.{in_default-via-in-None-1, in_default-via-in-Some+else-not-is_same_reply}
use Rattle.ob_meaning.specs.ByPositionObject.{effect}
use Rattle.wf_history.proofs.Once.{one_reply}
use Rattle.wf_history.specs.View.{event_of, seen_call, seen_reply}
use Rattle.wf_history.specs.declared.event.CallId.{CallId}

abbrev default : CallId
default = record { process = 0; number = 0 }

pub loop-id-init : goal.loop-id-init
loop-id-init g c = reaches_none g.M.CallMaker.stands (map event_of c.args.events.now) c.args.order.now c.args.maker.now

pub call_at-requires : goal.call_at-requires
call_at-requires g c =
    let i = c.loop-id.id-index in
    let order = c.args.order.now in
    let lt : i < length order = omega arith in
    let x = c.placed-x.result in
    let named = call_of_list c.args.places.now order i (get_or order i default) x (slice_get-get_or order i default lt) c.placed-x.ensures in
    (x.id, (c.requires.placed i x named.0).begins)

pub make-requires : goal.make-requires
make-requires g c =
    let i = c.loop-id.id-index in
    let order = c.args.order.now in
    let lt : i < length order = omega arith in
    let x = c.placed-x.result in
    let history = map event_of c.args.events.now in
    let named = call_of_list c.args.places.now order i (get_or order i default) x (slice_get-get_or order i default lt) c.placed-x.ensures in
    takes_next g.M.CallMaker.stands g.M.CallMaker.takes history order i c.args.maker.now c.loop-id.maker c.requires.taken c.loop-id.invariant x.id (seen_call c.call_at.result)
    (begun_here history x.id c.call_at.ensures.0 x.begin (seen_call c.call_at.result) (c.requires.placed i x named.0).begins c.call_at.ensures.1)

pub reply_at-requires : goal.reply_at-requires
reply_at-requires g c =
    let i = c.loop-id.id-index in
    let order = c.args.order.now in
    let lt : i < length order = omega arith in
    let x = c.placed-x.result in
    let named = call_of_list c.args.places.now order i (get_or order i default) x (slice_get-get_or order i default lt) c.placed-x.ensures in
    (x.id, end_at (map event_of c.args.events.now) x.id x.end c.in-Some.end c.in-Some.is (c.requires.placed i x named.0).ends)

pub returns-in-loop-id-clause-fault : goal.returns-in-loop-id-clause-fault
returns-in-loop-id-clause-fault g c = λ program budget opening stands.
    let i = c.loop-id.id-index in
    let order = c.args.order.now in
    let lt : i < length order = omega arith in
    let x = c.placed-x.result in
    let named = call_of_list c.args.places.now order i (get_or order i default) x (slice_get-get_or order i default lt) c.placed-x.ensures in
    let at = named.0 in
    let history = map event_of c.args.events.now in
    let ends = (c.requires.placed i x at).ends in
    let other = c.if-not-is_same_reply.true in
    let tells = c.is_same_reply.ensures in
    let r = c.loop-id.invariant program budget opening stands in
    let call = seen_call c.call_at.result in
    let made = c.in_ok-reply.ensures program budget r.state r.stands in
    record {
      call = call;
      before = r.state;
      next = record {
        place = i;
        here = named.1;
        begun = begun_here history x.id c.call_at.ensures.0 x.begin call (c.requires.placed i x at).begins c.call_at.ensures.1;
        leads = r.leads;
      };
      after = (effect program call budget r.state).state;
      answer = reply_of c.in_ok-reply.reply;
      ends = ends_so program budget call r.state (reply_of c.in_ok-reply.reply) made.reply_is;
      reply = seen_reply c.reply_at.result;
      ended = ended_here history x.id c.reply_at.ensures.0 c.in-Some.end (seen_reply c.reply_at.result)
          (end_at history x.id x.end c.in-Some.end c.in-Some.is ends) c.reply_at.ensures.1;
      other = λ same. false≢true (sym other ∙ tells.1 (sym same));
    }

pub loop-id-preserved : goal.loop-id-preserved
loop-id-preserved g c = λ program budget opening stands.
    let i = c.loop-id.id-index in
    let order = c.args.order.now in
    let lt : i < length order = omega arith in
    let x = c.placed-x.result in
    let named = call_of_list c.args.places.now order i (get_or order i default) x (slice_get-get_or order i default lt) c.placed-x.ensures in
    let at = named.0 in
    let history = map event_of c.args.events.now in
    let ends = (c.requires.placed i x at).ends in
    let r = c.loop-id.invariant program budget opening stands in
    rw add-one
    (reaches_more g.M.CallMaker.stands history order i program budget opening c.loop-id.maker c.make.new.self r x.id (seen_call c.call_at.result) (reply_of c.in_ok-reply.reply)
    named.1
    (begun_here history x.id c.call_at.ensures.0 x.begin (seen_call c.call_at.result) (c.requires.placed i x at).begins c.call_at.ensures.1)
    (c.in_ok-reply.ensures program budget r.state r.stands)
    (λ other ended. elim c.in_default.branch [
      | in_default-via-in-None-1 w ↦ (let none : c.placed-x.result.end ≡ None = cc in absurd (not_ended history x.id x.end none ends other ended))
      | in_default-via-in-Some+else-not-is_same_reply w ↦
          let end = end_at history x.id x.end w.in-Some.end w.in-Some.is ends in
          one_reply history c.requires.history x.id other (seen_reply w.reply_at.result) ended
          (ended_here history x.id w.reply_at.ensures.0 w.in-Some.end (seen_reply w.reply_at.result) end w.reply_at.ensures.1)
          ∙ sym (w.is_same_reply.ensures.0 w.if-not-is_same_reply.false)
    ]))

pub returns-clause-made : goal.returns-clause-made
returns-clause-made g c = λ program budget opening stands.
    reaches_all g.M.CallMaker.stands (map event_of c.args.events.now) c.args.order.now c.loop-id.id-index program budget opening c.loop-id.maker (omega arith)
    (c.loop-id.invariant program budget opening stands)
