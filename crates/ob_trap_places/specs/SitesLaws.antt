-- What holds of the sites of traps.
use Rattle.std.specs.Prelude.{◌≡◌, ℕ, Some, option_map, slice_get}
use Rattle.ob_interface.specs.Call.{ObjectCall}
use Rattle.ob_typing.specs.Program.{Expression, Statements, Procedure, Program, exports}
use Rattle.ob_meaning.specs.ByNameEvaluation as ByName
use Rattle.ob_meaning.specs.ByNameStatements as StatementsByName
use Rattle.ob_meaning.specs.ByNameStore as Names
use Rattle.ob_meaning.specs.ByPositionEvaluation as Evaluation
use Rattle.ob_meaning.specs.ByPositionObject as Objects
use Rattle.ob_meaning.specs.ByPositionStatements as Positions
use Rattle.ob_meaning.specs.ByPositionStore.{Activation, Store}
use Rattle.ob_trap_places.specs.Site.{Site, Explains, evaluated, outcome}
use Rattle.ob_trap_places.specs.SitesOverStore as Sites
use Rattle.ob_trap_places.specs.TrapOfCall.{export_number, site_of_call, site_of_opening, opening, trap_of, trap_of_run}

-- without the sites, the value of an expression is that of the meaning by position
abbrev pub ValuesAreOfTheMeaning : Type 0
ValuesAreOfTheMeaning = (store : Store) (e : Expression) → evaluated (Sites.value_of Evaluation.by_position store e) ≡ Evaluation.value_of store e

-- without the sites, statements come to what they mean by position, with so many turns and activations
abbrev pub StatementsAreOfTheMeaning : Type 0
StatementsAreOfTheMeaning =
    (program : Program) (more : ℕ) (ss : Statements) (turns : ℕ) (store : Store) →
    outcome (Sites.meaning_of_all Evaluation.by_position (Sites.calls Evaluation.by_position program more) 0 ss turns store)
    ≡ Positions.meaning_of_all (Positions.calls program more) ss turns store

-- so it is of the meaning by name
abbrev pub NamedValuesAreOfTheMeaning : Type 0
NamedValuesAreOfTheMeaning = (store : Names.Store) (e : Expression) → evaluated (Sites.value_of ByName.by_name store e) ≡ ByName.value_of store e

abbrev pub NamedStatementsAreOfTheMeaning : Type 0
NamedStatementsAreOfTheMeaning =
    (program : Program) (more : ℕ) (ss : Statements) (turns : ℕ) (store : Names.Store) →
    outcome (Sites.meaning_of_all ByName.by_name (Sites.calls ByName.by_name program more) 0 ss turns store)
    ≡ StatementsByName.meaning_of_all (StatementsByName.calls program more) ss turns store

-- a call from outside has a site exactly where it is answered by a trap, and the site has the number of that
abbrev pub TrappedCallsHaveSites : Type 0
TrappedCallsHaveSites =
    (program : Program) (call : ObjectCall) (budget : ℕ) (state : Activation) →
    option_map (λ site. site.number) (site_of_call program call budget state) ≡ trap_of (Objects.effect program call budget state).reply

-- without the sites, the opening comes to what it means
abbrev pub OpeningsAreOfTheMeaning : Type 0
OpeningsAreOfTheMeaning = (program : Program) (turns : ℕ) → outcome (opening program turns) ≡ Objects.opening program turns

-- the opening has a site exactly where it ends by a trap, and the site has the number of that
abbrev pub TrappedOpeningsHaveSites : Type 0
TrappedOpeningsHaveSites =
    (program : Program) (turns : ℕ) →
    option_map (λ site. site.number) (site_of_opening program turns) ≡ trap_of_run (Objects.opening program turns)

-- what the site of a call says could not be done leads to the trap of its number
abbrev pub CausesOfCallsExplain : Type 0
CausesOfCallsExplain =
    (program : Program) (call : ObjectCall) (budget : ℕ) (state : Activation) (site : Site) →
    site_of_call program call budget state ≡ Some site → Explains site.cause site.number

-- and what that of the opening says
abbrev pub CausesOfOpeningsExplain : Type 0
CausesOfOpeningsExplain =
    (program : Program) (turns : ℕ) (site : Site) → site_of_opening program turns ≡ Some site → Explains site.cause site.number

-- the export of a number is the procedure that has its number among all
abbrev pub ExportsHaveNumbers : Type 0
ExportsHaveNumbers =
    (program : Program) (k : ℕ) (p : Procedure) →
    slice_get (exports program) k ≡ Some p → slice_get program.procedures (export_number program.procedures k) ≡ Some p
