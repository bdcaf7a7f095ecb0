-- A silent task in front gives way to its parts, and what is in front of these gives way in turn.
use Rattle.std.proofs.Common.{◌≡◌, suc, ◌+◌, ◌≤◌, List, ◌++◌, length, Option, Some, None, refl, ap, sym, ◌∙◌, subst, arith}
use Rattle.ob_code_scheme.specs.Types.{Scope}
use Rattle.ob_tree_law.specs.Work.{Task, parts, given_way, opened_by, opened, work_nodes}
use Rattle.ob_tree_law.proofs.Ready.{gives_way, opened_on}
use Rattle.ob_tree_tasks.specs.WorkTasks.{WorkTasks, with_first, before}
use Rattle.ob_tree_tasks.specs.Opening.{IsSmallTask, FirstFits, CanBeOpened, GivesWay}

-- what a silent task in front gives way to
given_some : (go : List Task → List Task) (t : Task) (tasks rest : List Task) (o : Option (List Task)) → o ≡ Some tasks → given_way o go t rest ≡ go (tasks ++ rest)
given_some go t tasks rest None e = absurd (cc)
given_some go t tasks rest (Some others) e = let same : others ≡ tasks = cc in ap (λ (ts : List Task). go (ts ++ rest)) same

module _ (g : Scope) (t : Task) (w : WorkTasks) where
  -- there is room for its parts, and they have small operands
  pub first_fits : CanBeOpened g (with_first t w) → (length w.tasks + 4 ≤ w.room) × IsSmallTask g t
  first_fits fits = fits 0

  -- its parts come in front
  pub by_parts : (tasks : List Task) (n : WorkTasks) → parts g t ≡ Some tasks → n ≡ before tasks w → CanBeOpened g (with_first t w) → GivesWay g (with_first t w) n
  by_parts tasks n is was fits =
      let few = gives_way g t tasks w.tasks is in
      let here = ap (λ (x : WorkTasks). work_nodes x.tasks) was in
      record {
        same = ap (λ (x : WorkTasks). opened g x.tasks) was ∙ sym (opened_on g t tasks w.tasks is);
        room = ap (λ (x : WorkTasks). x.room) was;
        fits = λ m.
            subst (λ (x : WorkTasks). FirstFits g x.room (opened_by g m x.tasks)) (sym was)
            (subst (λ (ts : List Task). FirstFits g w.room ts) (given_some (opened_by g m) t tasks w.tasks (parts g t) is) (fits (suc m)));
        fewer = omega (arith, few, here);
      }

-- one after the other
pub then_gives : (g : Scope) (a b c : WorkTasks) → GivesWay g a b → GivesWay g b c → GivesWay g a c
then_gives g a b c x y =
    let p = x.fewer in
    let q = y.fewer in
    record { same = y.same ∙ x.same; room = y.room ∙ x.room; fits = y.fits; fewer = omega (arith, p, q) }

-- nothing has given way yet, or something has
pub record Leads (g : Scope) (old new : WorkTasks) : Type 0 where
  pub same : opened g new.tasks ≡ opened g old.tasks
  pub room : new.room ≡ old.room
  pub fits : CanBeOpened g new
  pub few : work_nodes new.tasks ≤ work_nodes old.tasks

pub stays : (g : Scope) (a : WorkTasks) → CanBeOpened g a → Leads g a a
stays g a fits = record { same = refl; room = refl; fits = fits; few = omega arith }

pub leads_on : (g : Scope) (a b c : WorkTasks) → Leads g a b → GivesWay g b c → GivesWay g a c
leads_on g a b c x y =
    let p = x.few in
    let q = y.fewer in
    record { same = y.same ∙ x.same; room = y.room ∙ x.room; fits = y.fits; fewer = omega (arith, p, q) }

pub leads : (g : Scope) (a b : WorkTasks) → GivesWay g a b → Leads g a b
leads g a b x = let p = x.fewer in record { same = x.same; room = x.room; fits = x.fits; few = omega (arith, p) }

-- behind a task that was taken there is room for its parts
pub room_behind : (g : Scope) (old new : WorkTasks) (t : Task) → old ≡ with_first t new → CanBeOpened g old → length new.tasks + 4 ≤ new.room
room_behind g old new t was fits = (first_fits g t new (subst (CanBeOpened g) was fits)).0
