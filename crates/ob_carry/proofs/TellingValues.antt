-- What is told on the way through statements.
use Rattle.std.proofs.Common.{◌≡◌, ℕ, ◌+◌, ◌<◌, ◌≤◌, ◌∙◌, Bool, true, false, List, [], ◌∷◌, drop, length, get_or, sym, subst, ap, Option, Vec, Result, Ok, Err, IfOk}
use Rattle.std.specs.declared.alloc.Global.{Global}
use Rattle.std.proofs.lemmas.List.{drop_more, drop_all}
use Rattle.ob_typing.specs.Program.{Branches, no_branch}
use Rattle.ob_checked.specs.declared.program.Statement.{Statement}
use Rattle.ob_checked.specs.declared.program.Statement.TheVariants as Variants
use Rattle.ob_checked.specs.declared.program.Branch.{Branch}
use Rattle.ob_checked.specs.declared.program.Expression.{Expression}
use Rattle.ob_checked.specs.View.{statement_of, statements_in, branches_in, otherwise_of}
use Rattle.ob_checked.proofs.Rows.{statement_of-if, statement_of-while, statement_of-repeat}
use Rattle.ob_carry.specs.ReadOnly.{SparesModule, AllSpareModule, BranchesSpareModule}
use Rattle.ob_carry.specs.ReadOnlyExports.{HasAll, IsTold}

-- what has the new list has the old one, and what is left leads to the whole
abbrev pub GoesOn : (Left Whole : (ℕ → Bool) → Type 0) → (old new : List ℕ) → Type 0
GoesOn Left Whole old new = (is_quiet : ℕ → Bool) → HasAll is_quiet new → HasAll is_quiet old × (Left is_quiet → Whole is_quiet)

module _ (First Left Whole : (ℕ → Bool) → Type 0) (old mid new : List ℕ) (told : Bool) (so_far : GoesOn Left Whole old mid) (part : IsTold First mid new told) where
  -- where a part is not told, the whole isn't
  pub told_no : IsTold Whole old new false
  told_no quiet h = ((so_far quiet (part quiet h).0).0, λ e. absurd cc)

  -- where it is, the rest is left
  pub told_on : (Rest : (ℕ → Bool) → Type 0) → told ≡ true → ((quiet : ℕ → Bool) → First quiet → Rest quiet → Left quiet) → GoesOn Rest Whole old new
  told_on Rest so join quiet h =
      let p = part quiet h in
      let s = so_far quiet p.0 in
      (s.0, λ rest. s.1 (join quiet (p.1 so) rest))

-- where nothing is left
pub told_end : (Left Whole : (ℕ → Bool) → Type 0) (old new : List ℕ) → GoesOn Left Whole old new → ((quiet : ℕ → Bool) → Left quiet) → IsTold Whole old new true
told_end Left Whole old new so_far none quiet h = let s = so_far quiet h in (s.0, λ so. s.1 (none quiet))

-- of one part, of which the whole consists
pub told_same : {E : Type 0} (First Whole : (ℕ → Bool) → Type 0) (old new : List ℕ) (r : Result Bool E) → ((quiet : ℕ → Bool) → First quiet → Whole quiet) →
    IfOk r (IsTold First old new) → IfOk r (IsTold Whole old new)
told_same First Whole old new (Ok told) go part = λ quiet h. let p = part quiet h in (p.0, λ so. go quiet (p.1 so))
told_same First Whole old new (Err e) go part = tt

module _ (First Whole : (ℕ → Bool) → Type 0) (old mid : List ℕ) (told : Bool) (part : IsTold First old mid told) where
  pub told_not : IsTold Whole old mid false
  told_not quiet h = ((part quiet h).0, λ e. absurd cc)

  pub told_alone : told ≡ true → ((quiet : ℕ → Bool) → First quiet → Whole quiet) → IsTold Whole old mid true
  told_alone so go quiet h = let p = part quiet h in (p.0, λ also. go quiet (p.1 so))

  -- of two parts
  pub told_both : {E : Type 0} (Second : (ℕ → Bool) → Type 0) (new : List ℕ) (r : Result Bool E) → told ≡ true → ((quiet : ℕ → Bool) → First quiet → Second quiet → Whole quiet) →
      IfOk r (IsTold Second mid new) → IfOk r (IsTold Whole old new)
  told_both Second new (Ok next) so join second = λ quiet h.
      let q = second quiet h in
      let p = part quiet q.0 in
      (p.0, λ also. join quiet (p.1 so) (q.1 also))
  told_both Second new (Err e) so join second = tt

module _ (quiet : ℕ → Bool) where
  pub statement_joins : (xs : List Statement) (i : ℕ) (x : Statement) → i < length xs → x ≡ get_or xs i x →
      SparesModule quiet (statement_of x) → AllSpareModule quiet (statements_in (drop (i + 1) xs)) → AllSpareModule quiet (statements_in (drop i xs))
  statement_joins xs i x within is first rest =
      subst (λ (ys : List Statement). AllSpareModule quiet (statements_in ys)) (sym (drop_more xs i x within ∙ ap (λ (y : Statement). y ∷ drop (i + 1) xs) (sym is))) (first, rest)

  pub no_statement_left : (xs : List Statement) (i : ℕ) → length xs ≤ i → AllSpareModule quiet (statements_in (drop i xs))
  no_statement_left xs i past = subst (λ (ys : List Statement). AllSpareModule quiet (statements_in ys)) (sym (drop_all i xs past)) tt

  pub branch_joins : (xs : List Branch) (i : ℕ) (x : Branch) (body : List Statement) → i < length xs → x ≡ get_or xs i x → body ≡ x.body.items →
      AllSpareModule quiet (statements_in body) → BranchesSpareModule quiet (branches_in (drop (i + 1) xs) no_branch) → BranchesSpareModule quiet (branches_in (drop i xs) no_branch)
  branch_joins xs i x body within is same first rest =
      subst (λ (ys : List Branch). BranchesSpareModule quiet (branches_in ys no_branch)) (sym (drop_more xs i x within ∙ ap (λ (y : Branch). y ∷ drop (i + 1) xs) (sym is)))
      (subst (λ (ys : List Statement). AllSpareModule quiet (statements_in ys)) same first, rest)

  pub no_branch_left : (xs : List Branch) (i : ℕ) → length xs ≤ i → BranchesSpareModule quiet (branches_in (drop i xs) no_branch)
  no_branch_left xs i past = subst (λ (ys : List Branch). BranchesSpareModule quiet (branches_in ys no_branch)) (sym (drop_all i xs past)) tt

  followed : (xs : List Branch) (last : Branches) → BranchesSpareModule quiet (branches_in xs no_branch) → BranchesSpareModule quiet last → BranchesSpareModule quiet (branches_in xs last)
  followed [] last h l = l
  followed (x ∷ xs) last h l = (h.0, followed xs last h.1 l)

  -- a statement by its parts
  pub if_spares : (s : Statement) (branches : Vec Branch Global) (otherwise held : Option (Vec Statement Global)) (bs : List Branch) → s ≡ Variants.If branches otherwise →
      bs ≡ branches.items → otherwise ≡ held → BranchesSpareModule quiet (branches_in bs no_branch) → BranchesSpareModule quiet (otherwise_of held) → SparesModule quiet (statement_of s)
  if_spares s branches otherwise held bs is same there h last =
      subst (SparesModule quiet) (sym (ap statement_of is ∙ statement_of-if branches otherwise))
      (followed branches.items (otherwise_of otherwise)
      (subst (λ (xs : List Branch). BranchesSpareModule quiet (branches_in xs no_branch)) same h)
      (subst (λ (o : Option (Vec Statement Global)). BranchesSpareModule quiet (otherwise_of o)) (sym there) last))

  pub while_spares : (s : Statement) (condition : Expression) (body : Vec Statement Global) (ss : List Statement) → s ≡ Variants.While condition body → ss ≡ body.items →
      AllSpareModule quiet (statements_in ss) → SparesModule quiet (statement_of s)
  while_spares s condition body ss is same h =
      subst (SparesModule quiet) (sym (ap statement_of is ∙ statement_of-while condition body)) (subst (λ (xs : List Statement). AllSpareModule quiet (statements_in xs)) same h)

  pub repeat_spares : (s : Statement) (condition : Expression) (body : Vec Statement Global) (ss : List Statement) → s ≡ Variants.Repeat body condition → ss ≡ body.items →
      AllSpareModule quiet (statements_in ss) → SparesModule quiet (statement_of s)
  repeat_spares s condition body ss is same h =
      subst (SparesModule quiet) (sym (ap statement_of is ∙ statement_of-repeat body condition)) (subst (λ (xs : List Statement). AllSpareModule quiet (statements_in xs)) same h)
