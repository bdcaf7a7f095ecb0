-- The replies so far, and those of one more configuration.
use Rattle.std.proofs.Common.{◌≡◌, sym, ap, ◌∙◌, subst, ℕ, ◌+◌, length, get_or, map, option_map, List, Some, Vec, Global, arith}
use Rattle.std.proofs.Math.Bridge.{le_prop}
use Rattle.std.proofs.Math.Logic.{∥∥₁_elim, ∥∥₁_map}
use Rattle.std.proofs.Props.{props}
use Rattle.std.proofs.lemmas.Option.{MatchOption-at_none, MatchOption-at_some, slice_get-get_or, slice_get-map}
use Rattle.std.specs.List.{slice_get}
use Rattle.ob_interface.specs.View.{reply_of}
use Rattle.wf_history.proofs.Positions.{contains_at}
use Rattle.wf_outcomes.specs.declared.call_replies.Possible.{Possible}
use Rattle.wf_outcomes.specs.Explored.{kept_in, all_kept, calls_in}
use Rattle.wf_outcomes.specs.Outcomes.{HasNoReply, IsOnlyReply}
use Rattle.wf_outcomes.specs.Possible.{had_in}
use Rattle.wf_outcomes.proofs.Meeting.{are_told}
use Rattle.wf_outcomes.proofs.Replying.{AreSoFar, none_so_far, no_reply, one_reply, all_replies}
use Rattle.wf_outcomes.proofs.explored.Explored.replies_of.Goals as goal
use Rattle.wf_outcomes.proofs.explored.Explored.replies_of.Goals.{in-Some+in_ok-add_reply, in_default}

pub index-requires : goal.index-requires
index-requires g c =
    let self = c.args.self.now in
    let row = c.loop-row.row in
    let place = get_or c.as_slice-places.result.now row 0 in
    let at : slice_get self.telling.items row ≡ Some place = ap (λ (l : List ℕ). slice_get l row) (sym c.as_slice-places.ensures.value) ∙ slice_get-get_or c.as_slice-places.result.now row 0 c.loop-row-test.true in
    ∥∥₁_elim self.told le_prop (λ t. t.within row place at)

pub reply_at-requires-clause-words : goal.reply_at-requires-clause-words
reply_at-requires-clause-words g c =
    let self = c.args.self.now in
    self.worded c.index.result.now (contains_at self.seen.keys (get_or c.as_slice-places.result.now c.loop-row.row 0) c.index.result.now c.index.ensures)

pub reply_at-requires-clause-memory : goal.reply_at-requires-clause-memory
reply_at-requires-clause-memory g c =
    let self = c.args.self.now in
    self.remembered

pub loop-row-init : goal.loop-row-init
loop-row-init g c =
    let self = c.args.self.now in
    ∣ none_so_far (g.O.Object.effect self.object.now) (calls_in self.scripts.now) (all_kept g.O.Object.meaning self.seen) self.telling.items c.args.id (map had_in c.new-replies.result.items) (ap (map had_in) c.new-replies.ensures.items) ∣₁

pub loop-row-preserved : goal.loop-row-preserved
loop-row-preserved g c =
    let view = kept_in g.O.Object.meaning in
    let self = c.args.self.now in
    let effect = g.O.Object.effect self.object.now in
    let scripts = calls_in self.scripts.now in
    let kept = all_kept g.O.Object.meaning self.seen in
    let places = self.telling.items in
    let row = c.loop-row.row in
    let place = get_or c.as_slice-places.result.now row 0 in
    let there : slice_get places row ≡ Some place = ap (λ (l : List ℕ). slice_get l row) (sym c.as_slice-places.ensures.value) ∙ slice_get-get_or c.as_slice-places.result.now row 0 c.loop-row-test.true in
    let one = view c.index.result.now in
    let id = c.args.id in
    let at = slice_get-map view self.seen.keys place ∙ ap (option_map view) c.index.ensures in
    let replies = map had_in c.loop-row.replies.items in
    ∥∥₁_elim c.loop-row.invariant (hlevel props) (λ h.
    elim c.match-branch-2.branch [
      | in-Some+in_ok-add_reply w ↦
          let only = MatchOption-at_some (HasNoReply effect scripts one.here id) (λ reply. ∥ IsOnlyReply effect scripts one.here id (reply_of reply) ∥₁) w.in-Some.reply w.in-Some.is c.in_ok-reply.ensures in
          subst (λ (v : Vec Possible Global). ∥ AreSoFar effect scripts kept places id (map had_in v.items) (row + 1) ∥₁) (sym w.replies-is)
          (∥∥₁_map only (λ o. one_reply effect scripts kept places id replies row h place there one at (reply_of w.in-Some.reply) o (map had_in w.add_reply.new.replies.items) w.in_ok-add_reply.ensures))
      | in_default w ↦
          subst (λ (v : Vec Possible Global). ∥ AreSoFar effect scripts kept places id (map had_in v.items) (row + 1) ∥₁) (sym w.replies-is)
          ∣ no_reply effect scripts kept places id replies row h place there one at (MatchOption-at_none (HasNoReply effect scripts one.here id) (λ reply. ∥ IsOnlyReply effect scripts one.here id (reply_of reply) ∥₁) w.in_default.is c.in_ok-reply.ensures) ∣₁
    ])

pub returns : goal.returns
returns g c =
    let self = c.args.self.now in
    let kept = all_kept g.O.Object.meaning self.seen in
    let places = self.telling.items in
    let size : length places ≡ length c.as_slice-places.result.now = ap length (sym c.as_slice-places.ensures.value) in
    let end = c.loop-row-test.false in
    ∥∥₁_elim self.explored (hlevel props) (λ x. ∥∥₁_elim self.told (hlevel props) (λ t. ∥∥₁_map c.loop-row.invariant (λ h.
    all_replies (g.O.Object.effect self.object.now) (calls_in self.scripts.now) kept places c.args.id (g.O.Object.opening self.object.now) x
    (are_told g.O.Object.meaning g.O.Object.words_of (λ a b. g.met.O.Object.told_apart a b) self.seen.keys places self.worded t)
    (map had_in c.loop-row.replies.items) c.loop-row.row h (omega (arith, size, end)))))
