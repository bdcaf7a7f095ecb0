-- By the step that there is, and where what it leads to was found.
use Rattle.std.proofs.Common.{sym, ap, ◌∙◌, option_map, map, arith}
use Rattle.std.proofs.Math.Bridge.{le_prop}
use Rattle.std.proofs.Math.Logic.{∥∥₁_elim}
use Rattle.std.proofs.lemmas.List.{length-map}
use Rattle.std.proofs.lemmas.Option.{MatchOption-at_none, slice_get-map}
use Rattle.ob_interface.specs.View.{reply_of}
use Rattle.wf_history.specs.View.{kept_call}
use Rattle.wf_outcomes.specs.Explored.{kept_in, all_kept, calls_in, HasNoStep, IsOnlyStepWith, IsWorded}
use Rattle.wf_outcomes.proofs.Leading.{at_end, both_match, both_there, found_at, leads_on, sizes}
use Rattle.wf_outcomes.proofs.explored.Explored.onward.Goals as goal

pub stepped-requires : goal.stepped-requires
stepped-requires g c =
    let view = kept_in g.O.Object.meaning in
    let self = c.args.self.now in
    let at = slice_get-map view self.seen.keys c.args.place ∙ ap (option_map view) c.index.ensures in
    let count = length-map self.scripts.now (λ s. map kept_call s.items) in
    let own = c.requires.process in
    ∥∥₁_elim self.explored le_prop (λ h.
    let size = sizes (g.O.Object.effect self.object.now) (calls_in self.scripts.now) (g.O.Object.opening self.object.now) (all_kept g.O.Object.meaning self.seen) h c.args.place (view c.index.result.now) at in
    omega (arith, size, count, own))

pub returns-in_default : goal.returns-in_default
returns-in_default g c =
    let view = kept_in g.O.Object.meaning in
    let self = c.args.self.now in
    let effect = g.O.Object.effect self.object.now in
    let scripts = calls_in self.scripts.now in
    let here = view c.index.result.now in
    let at = slice_get-map view self.seen.keys c.args.place ∙ ap (option_map view) c.index.ensures in
    let never = MatchOption-at_none (HasNoStep effect scripts here.here c.args.process) (λ to. IsOnlyStepWith effect scripts here.here c.args.process (reply_of to.1) (view to.0).here) c.in_default.is c.in_ok-there.ensures.only in
    ∣ at_end effect scripts (all_kept g.O.Object.meaning self.seen) c.args.place c.args.process here at never ∣₁

pub returns-in-Some-get_index_of : goal.returns-in-Some-get_index_of
returns-in-Some-get_index_of g c =
    let view = kept_in g.O.Object.meaning in
    let self = c.args.self.now in
    let effect = g.O.Object.effect self.object.now in
    let scripts = calls_in self.scripts.now in
    let here = view c.index.result.now in
    let at = slice_get-map view self.seen.keys c.args.place ∙ ap (option_map view) c.index.ensures in
    let only = both_match c.in_ok-there.field-0 c.in-Some.there c.in-Some.reply c.in-Some.is (HasNoStep effect scripts here.here c.args.process) (λ to. IsOnlyStepWith effect scripts here.here c.args.process (reply_of to.1) (view to.0).here) c.in_ok-there.ensures.only in
    let worded = both_there c.in_ok-there.field-0 c.in-Some.there c.in-Some.reply c.in-Some.is (λ to. IsWorded g.O.Object.meaning g.O.Object.words_of to.0) c.in_ok-there.ensures.words in
    let f = found_at g.O.Object.meaning g.O.Object.words_of (λ a b. g.met.O.Object.told_apart a b) self.seen.keys self.worded c.in-Some.there worded c.in-Some-get_index_of.place
    (sym c.get_index_of.ensures.index ∙ c.in-Some-get_index_of.is) in
    ∣ leads_on effect scripts (all_kept g.O.Object.meaning self.seen) c.args.place c.args.process here at (reply_of c.in-Some.reply) (view c.in-Some.there).here only c.in-Some-get_index_of.place f.0 f.1 f.2 ∣₁
