use Rattle.std.proofs.Common.{◌≡◌, ◌-◌, ◌<◌, ◌++◌, List, length, get_or, ap, ap₂, ◌∙◌, arith}
use Rattle.ob_interface.specs.declared.scalar.Scalar.{Scalar}
use Rattle.wf_records.specs.declared.submitted_calls.Head.{Head}
use Rattle.wf_records.specs.CallsKept.{KeptCalls, calls_from, no_call}
use Rattle.wf_records.proofs.CallsKept.{length-calls_from, call_is}
use Rattle.wf_records.proofs.submitted_calls.CallList.make.Goals as goal

pub index-requires : goal.index-requires
index-requires c =
    let s = c.self.inside in
    omega (arith, c.requires.some, c.requires.within, s.heads.ok.0, length-calls_from 0 s.heads.items s.arguments.items, ap (λ (k : KeptCalls). length k.calls) c.self.view_is)

pub arguments_at-requires-clause-within : goal.arguments_at-requires-clause-within
arguments_at-requires-clause-within c =
    let s = c.self.inside in
    omega (arith, c.requires.some, c.requires.within, length-calls_from 0 s.heads.items s.arguments.items, ap (λ (k : KeptCalls). length k.calls) c.self.view_is, ap length c.deref.ensures.value)

pub invariant_of-self-2 : goal.invariant_of-self-2
invariant_of-self-2 c =
    let s = c.self.inside in
    let hs = s.heads.items in
    let xs = s.arguments.items in
    let i = c.args.number - 1 in
    let lt : i < length hs = omega (arith, c.requires.some, c.requires.within, length-calls_from 0 hs xs, ap (λ (k : KeptCalls). length k.calls) c.self.view_is) in
    let ys : c.append.new.list.items ≡ (get_or (calls_from 0 hs xs) i no_call).arguments =
    c.in_ok-append.ensures
    ∙ ap (λ (l : List Scalar). l ++ c.arguments_at.result.now) c.clear.ensures.items
    ∙ c.arguments_at.ensures
    ∙ ap₂ (λ (k : List Head) (l : List Scalar). (get_or (calls_from 0 k l) i no_call).arguments) c.deref.ensures.value c.deref-2.ensures.value in
    record {
      laid = c.self.invariant.laid;
      counted = omega (arith, lt, c.requires.some);
      at_hand = λ _. call_is hs xs _ i c.index.result.now lt c.index.ensures ys;
    }
