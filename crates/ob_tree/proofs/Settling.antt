-- Opening goes on until no silent task is in front.
use Rattle.std.proofs.Common.{◌≡◌, ℕ, false, List, [], ◌∷◌, None, refl, ap, sym, ◌∙◌}
use Rattle.ob_code_scheme.specs.Types.{Scope}
use Rattle.ob_tree_law.specs.Work.{Task, Value, Operators, Address, Selecting, Handing, Doing, All, Choosing, Instruction, AndThen, OrElse, Alternative, Over, Looping, Again, Until, Taking, Calling, Leaving, parts, opened}
use Rattle.ob_tree_law.proofs.Ready.{IsReady, opened_left}
use Rattle.ob_tree_tasks.specs.WorkTasks.{WorkTasks, with_tasks}
use Rattle.ob_tree_tasks.specs.Opening.{is_silent, starts_silent}

-- a task that is not silent stays
stays : (g : Scope) (t : Task) → is_silent t ≡ false → parts g t ≡ None
stays g (Value own e) off = absurd (cc)
stays g (Operators own os) off = absurd (cc)
stays g (Address own d) off = absurd (cc)
stays g (Selecting own type ss) off = absurd (cc)
stays g (Handing own xs) off = absurd (cc)
stays g (Doing own s) off = absurd (cc)
stays g (All own ss) off = absurd (cc)
stays g (Choosing own bs) off = absurd (cc)
stays g (Instruction i) off = refl
stays g (AndThen own right) off = refl
stays g (OrElse own right) off = refl
stays g (Alternative own ss others) off = refl
stays g Over off = refl
stays g (Looping own condition body) off = refl
stays g (Again own condition body) off = refl
stays g (Until own body condition) off = refl
stays g Taking off = refl
stays g (Calling number parameters) off = refl
stays g Leaving off = refl

is_ready : (g : Scope) (work : List Task) → starts_silent work ≡ false → IsReady g work
is_ready g [] off = tt
is_ready g (t ∷ rest) off = stays g t off

-- what opening has come to, with the same room, is what was to be opened
pub settled_so : (g : Scope) (w i : WorkTasks) → opened g w.tasks ≡ opened g i.tasks → w.room ≡ i.room → starts_silent w.tasks ≡ false → w ≡ with_tasks i (opened g i.tasks)
settled_so g w i same room off =
    let is : w.tasks ≡ opened g i.tasks = sym (opened_left g w.tasks (is_ready g w.tasks off)) ∙ same in
    ap (λ (ts : List Task). record { room = w.room; tasks = ts }) is ∙ ap (λ (r : ℕ). record { room = r; tasks = opened g i.tasks }) room
