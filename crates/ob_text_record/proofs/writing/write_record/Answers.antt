use Rattle.std.proofs.Common.{◌≡◌, ◌++◌, List, ℕ, Option, append_assoc, subst}
use Rattle.ob_meaning.specs.ByPositionStore.{Activation}
use Rattle.ob_text_record.specs.Variables.{state_text}
use Rattle.ob_text_record.specs.RecordText.{carried_text}
use Rattle.ob_typing.specs.Program.{Program}
use Rattle.ob_text_record.proofs.writing.write_record.Goals as goal

-- parts appended one by one
appended : (title head carried events order schedule variables a b c d e f g : List ℕ) → a ≡ title → b ≡ a ++ head → c ≡ b ++ carried → d ≡ c ++ events →
    e ≡ d ++ order → f ≡ e ++ schedule → g ≡ f ++ variables → g ≡ title ++ head ++ carried ++ events ++ order ++ schedule ++ variables
appended title head carried events order schedule variables a b c d e f g ta tb tc td te tf tg =
    rw (tg, tf, te, td, tc, tb, ta) (simp append_assoc)

-- the program is the other that it is
carried_as : (p q : Program) → p ≡ q → (c b : List ℕ) (carried : Option Activation) → c ≡ b ++ carried_text p carried → c ≡ b ++ carried_text q carried
carried_as p q e c b carried h = subst (λ (r : Program). c ≡ b ++ carried_text r carried) e h

state_as : (p q : Program) → p ≡ q → (b f : List ℕ) (state : Activation) → b ≡ f ++ state_text p.variables state → b ≡ f ++ state_text q.variables state
state_as p q e b f state h = subst (λ (r : Program). b ≡ f ++ state_text r.variables state) e h

pub returns : goal.returns
returns c =
    appended _ _ _ _ _ _ _ _ _ _ _ _ _ _ (rw c.title.ensures at c.in_ok-text.ensures.ok) c.in_ok-push_head.ensures.ok
    (carried_as _ _ c.program.ensures.program _ _ _ c.in_ok-push_carried.ensures.ok)
    (rw (c.exports.ensures, c.events.ensures.value) at c.in_ok-push_events.ensures.ok)
    (rw c.deref.ensures.value at c.in_ok-push_order.ensures.ok)
    (rw c.deref-2.ensures.value at c.in_ok-push_schedule.ensures.ok)
    (state_as _ _ c.program-2.ensures.program _ _ _ c.in_ok-push_state.ensures.ok)
