-- What sites and halts stand for, and what evaluations with sites come to.
use Rattle.std.specs.Prelude.{◌≡◌, ℕ, Result, Ok, Err}
use Rattle.ob_interface.specs.declared.scalar.Scalar.{Scalar}
use Rattle.ob_checked.specs.declared.program.Operation.{Operation}
use Rattle.ob_checked.specs.declared.program.Selector.{Selector}
use Rattle.ob_checked.specs.declared.program.Selector.TheVariants.{Field, Element}
use Rattle.ob_checked.specs.View.{expression_of}
use Rattle.ob_meaning.specs.ByPositionStore.{Store}
use Rattle.ob_meaning.specs.ByPositionEvaluation.{by_position}
use Rattle.ob_trap_places.specs.Site as Sites
use Rattle.ob_trap_places.specs.Site.{Sited, Yields, TrapsAt, of_part}
use Rattle.ob_trap_places.specs.SitesOverStore.{value_of, applied, indexed}
use Rattle.ob_trap_places.specs.declared.site.Cause.{Cause}
use Rattle.ob_trap_places.specs.declared.site.Cause.TheVariants as Causes
use Rattle.ob_trap_places.specs.declared.site.Site.{Site}
use Rattle.ob_trap_places.specs.declared.site.Halt.{Halt}
use Rattle.ob_trap_places.specs.declared.site.Halt.TheVariants as Halts

abbrev pub cause_of : Cause → Sites.Cause
cause_of (Causes.Operating operator left right) = Sites.Operating operator left right
cause_of (Causes.Negating operand) = Sites.Negating operand
cause_of (Causes.Indexing length index) = Sites.Indexing length index
cause_of Causes.Activating = Sites.Activating
cause_of Causes.Turning = Sites.Turning

abbrev pub site_of : Site → Sites.Site
site_of s = record { number = s.number; procedure = s.procedure; path = s.path.items; cause = cause_of s.cause }

-- a trap with this site, or memory was wanted
abbrev pub HaltsAs : Sites.Site → Halt → Type 0
HaltsAs site (Halts.Trap found) = site_of found ≡ site
HaltsAs site Halts.NoMemory = Unit {0}

-- only memory was wanted
abbrev pub IsWant : Halt → Type 0
IsWant (Halts.Trap found) = ⊥
IsWant Halts.NoMemory = Unit {0}

-- why a construct isn't done, where this part of it isn't for the first reason
abbrev pub IsInside : ℕ → Halt → Halt → Type 0
IsInside part (Halts.Trap site) outer = HaltsAs (Sites.inside part (site_of site)) outer
IsInside part Halts.NoMemory outer = IsWant outer

-- why a call of a procedure isn't done, where its statements aren't for the first reason
abbrev pub IsWithin : (number : ℕ) → Halt → Halt → Type 0
IsWithin number (Halts.Trap site) outer = HaltsAs (Sites.called number (site_of site)) outer
IsWithin number Halts.NoMemory outer = IsWant outer

-- an evaluation with sites gave what this stands for, trapped there, or memory was wanted
abbrev pub Reaches : {A B : Type 0} → (A → B) → Sited B → Result A Halt → Type 0
Reaches view x (Ok a) = x ≡ Yields (view a)
Reaches view x (Err (Halts.Trap site)) = x ≡ TrapsAt (site_of site)
Reaches view x (Err Halts.NoMemory) = Unit {0}

-- the position that a selector of this part leads to
abbrev pub position_in : Store → ℕ → Selector → Sited ℕ
position_in store part (Field position name) = Yields position
position_in store part (Element length index) = of_part part (indexed length (value_of by_position store (expression_of index)))

-- what an operator makes of a value, with the operand behind it
abbrev pub applied_in : Store → Scalar → Operation → Sited Scalar
applied_in store value operation = applied operation.operator value (value_of by_position store (expression_of operation.operand))
