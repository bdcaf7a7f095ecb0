-- The verdict on the module of a text decides it.
use Rattle.std.proofs.Common.{◌≡◌, refl, sym, subst, ◌∙◌, inl, inr, ◌⊎◌}
use Rattle.ob_grammar.specs.Tree.{Module}
use Rattle.ob_grammar.specs.Texts.{HasText}
use Rattle.ob_typing.specs.declared.rule.BrokenRule.{BrokenRule}
use Rattle.ob_typing.specs.Program.{Program}
use Rattle.ob_typing.specs.Declarations.{WellTyped}
use Rattle.ob_typing.specs.DeclarationFaults.{Breaks}
use Rattle.ob_typing.specs.Verdict.{Verdict, Right, Wrong, Foreign}
use Rattle.ob_typing.proofs.Told.{Told}
use Rattle.ob_typing.proofs.ToldModules.{module_told}
use Rattle.ob_typing.specs.ModuleVerdicts.{checked}
use Rattle.ob_typing.proofs.CheckedModules.{module_typed, module_breaks}
use Rattle.ob_typing.proofs.DecidedModules.{one_or_other}
use Rattle.ob_scopes.specs.declared.fault.CheckFault.{CheckFault}
use Rattle.ob_scopes.specs.declared.fault.CheckFault.TheVariants.{Broken, NoMemory}
use Rattle.ob_rules.specs.Checking.{Fails}
use Rattle.ob_check.specs.CheckingModules.{IsRefused}

pub well_typed : (m : Module) (p : Program) → checked m ≡ Right p → WellTyped m p
well_typed m p h = let P : Verdict Program → Type 0 = λ v. Told (WellTyped m) (Breaks m) v in subst P h (module_told m)

-- and as no other program
pub only_program : (m : Module) (p other : Program) → checked m ≡ Right p → WellTyped m other → other ≡ p
only_program m p other h typed = same (sym (module_typed typed) ∙ h)
  where
    same : {a b : Program} → Right a ≡ Right b → a ≡ b
    same e = cc

breaks : (m : Module) (g : BrokenRule) → checked m ≡ Wrong g → Breaks m g
breaks m g h = let P : Verdict Program → Type 0 = λ v. Told (WellTyped m) (Breaks m) v in subst P h (module_told m)

never_foreign : (m : Module) → HasText m → checked m ≡ Foreign → ⊥
never_foreign m t h = by (one_or_other m t)
  where
    by : (((p : Program) × WellTyped m p) ⊎ ((fault : BrokenRule) × Breaks m fault)) → ⊥
    by (inl w) = no_right w.0 (sym (module_typed w.1) ∙ h)
      where
        no_right : (p : Program) → Right p ≡ Foreign → ⊥
        no_right p e = cc
    by (inr b) = no_wrong b.0 (sym (module_breaks b.1) ∙ h)
      where
        no_wrong : (g : BrokenRule) → (let v : Verdict Program = Wrong g in v ≡ Foreign) → ⊥
        no_wrong g e = cc

pub refused : (m : Module) → HasText m → (f : CheckFault) → Fails f (checked m) → IsRefused f m
refused m t NoMemory h = tt
refused m t (Broken fault) h = by (checked m) refl h
  where
    by : (v : Verdict Program) → checked m ≡ v → Fails (Broken fault) v → Breaks m fault
    by (Right p) e k = absurd k
    by (Wrong g) e k = subst (Breaks m) (sym k) (breaks m g e)
    by Foreign e k = absurd (never_foreign m t e)
