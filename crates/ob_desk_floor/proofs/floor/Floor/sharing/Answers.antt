use Rattle.std.specs.Arc.{arc_value}
use Rattle.std.proofs.Common.{◌≡◌, ◌∙◌, Global, List, Vec, sym, subst, map, ap}
use Rattle.std.specs.Prelude.{ℤ}
use Rattle.wf_object.specs.View.{Object}
use Rattle.wf_table.specs.Start.{IsStart, sizes_of}
use Rattle.ob_desk_floor.specs.Floor.{Floor, IsFloor}
use Rattle.ob_desk_floor.specs.Submission.{submission_of}
use Rattle.ob_desk_floor.specs.declared.submission.Submission.{Submission}
use Rattle.ob_desk_floor.proofs.Floors.{floor_opened}
use Rattle.ob_desk_floor.proofs.floor.Floor.sharing.Goals as goal

pub invariant_of-result : goal.invariant_of-result
invariant_of-result g c =
    let i = g.E.Engine in
    let opened = c.in-Ok.ensures in
    let words : c.as_slice.result.now ≡ c.args.opening.now.words.items = c.as_slice.ensures.value in
    let opened_at = opened.opening ∙ words in
    let opened_state = subst (λ (ws : List ℤ). IsStart (i.ready c.args.engine) (sizes_of (i.meaning c.args.engine) c.args.n) ws c.in-Ok.machine.state) words opened.state in
    let given : c.as_slice-2.result.now ≡ (arc_value c.args.scripts).items = c.as_slice-2.ensures.value ∙ ap (λ (v : Vec Submission Global). v.items) c.deref.ensures in
    let done = c.in_ok-submit_all.ensures in
    let f : Floor _ _ = record { machine = c.submit_all.new.machine; carried = c.args.opening.now.carried; scripts = map submission_of (arc_value c.args.scripts).items; counts = c.in_ok-counts.counts.items } in
    let both = floor_opened i.meaning i.lawful i.fits i.ready c.args.engine c.args.n c.args.opening.now.words.items c.args.opening.now.carried (arc_value c.args.scripts).items c.as_slice-2.result.now c.in-Ok.machine c.submit_all.new.machine c.in_ok-counts.counts.items c.requires.some c.requires.few c.requires.opening c.requires.fits
    opened.engine opened.sizes opened_at opened_state done given (c.in_ok-counts.ensures.items_if_clones_equal (λ y x. x)) in
    subst (λ e. IsFloor (i.meaning e) (i.lawful e) (i.fits e) (i.ready e) f) (sym (ap (λ (o : Object _ _). o.engine) done ∙ opened.engine)) both.0

pub returns-clause-no_turns : goal.returns-clause-no_turns
returns-clause-no_turns g c =
    let i = g.E.Engine in
    let opened = c.in-Ok.ensures in
    let words : c.as_slice.result.now ≡ c.args.opening.now.words.items = c.as_slice.ensures.value in
    let opened_at = opened.opening ∙ words in
    let opened_state = subst (λ (ws : List ℤ). IsStart (i.ready c.args.engine) (sizes_of (i.meaning c.args.engine) c.args.n) ws c.in-Ok.machine.state) words opened.state in
    let given : c.as_slice-2.result.now ≡ (arc_value c.args.scripts).items = c.as_slice-2.ensures.value ∙ ap (λ (v : Vec Submission Global). v.items) c.deref.ensures in
    let both = floor_opened i.meaning i.lawful i.fits i.ready c.args.engine c.args.n c.args.opening.now.words.items c.args.opening.now.carried (arc_value c.args.scripts).items c.as_slice-2.result.now c.in-Ok.machine c.submit_all.new.machine c.in_ok-counts.counts.items c.requires.some c.requires.few c.requires.opening c.requires.fits
    opened.engine opened.sizes opened_at opened_state c.in_ok-submit_all.ensures given (c.in_ok-counts.ensures.items_if_clones_equal (λ y x. x)) in
    both.1

pub returns-clause-floor : goal.returns-clause-floor
returns-clause-floor g c =
    let i = g.E.Engine in
    let opened = c.in-Ok.ensures in
    let words : c.as_slice.result.now ≡ c.args.opening.now.words.items = c.as_slice.ensures.value in
    let opened_at = opened.opening ∙ words in
    let opened_state = subst (λ (ws : List ℤ). IsStart (i.ready c.args.engine) (sizes_of (i.meaning c.args.engine) c.args.n) ws c.in-Ok.machine.state) words opened.state in
    let given : c.as_slice-2.result.now ≡ (arc_value c.args.scripts).items = c.as_slice-2.ensures.value ∙ ap (λ (v : Vec Submission Global). v.items) c.deref.ensures in
    let both = floor_opened i.meaning i.lawful i.fits i.ready c.args.engine c.args.n c.args.opening.now.words.items c.args.opening.now.carried (arc_value c.args.scripts).items c.as_slice-2.result.now c.in-Ok.machine c.submit_all.new.machine c.in_ok-counts.counts.items c.requires.some c.requires.few c.requires.opening c.requires.fits
    opened.engine opened.sizes opened_at opened_state c.in_ok-submit_all.ensures given (c.in_ok-counts.ensures.items_if_clones_equal (λ y x. x)) in
    both.0
