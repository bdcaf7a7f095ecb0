-- Each export has a name of its own.
use Rattle.std.proofs.Common.{◌≡◌, ℕ, zero, suc, ◌+◌, Bool, true, false, cond, bytes_eq, List, [], ◌∷◌, Option, Some, None, map, slice_get, refl, sym, ◌∙◌, ap, subst, arith}
use Rattle.std.specs.Prelude.{is_some}
use Rattle.std.specs.List.{AllByRecursion, enumerate_from, find}
use Rattle.std.proofs.lemmas.Bool.{false≢true}
use Rattle.std.proofs.lemmas.Option.{same_Some}
use Rattle.std.proofs.lemmas.Slice.Eq.{bytes_eq-Decides}
use Rattle.ob_meaning.specs.Exported.{Export, exports_declared, exports_in, exports_of, formals_in, seen}
use Rattle.ob_meaning.proofs.ResolvedModules.{exports_are_seen}
use Rattle.ob_checked.specs.Exports.{signature_in, signatures}
use Rattle.ob_grammar.specs.Tree as Tree
use Rattle.ob_grammar.specs.Tree.{Declarations, Module, Procedures}
use Rattle.ob_interface.specs.Export.{Signature}
use Rattle.ob_text_words.specs.ExportNames.{export_named}
use Rattle.ob_typing.specs.Declarations as Typing
use Rattle.ob_typing.specs.Declarations.{Declares, DeclaresProcedures, Room, WellTyped}
use Rattle.ob_typing.specs.Program.{Name, Procedure, Program, Variable, exports}
use Rattle.ob_typing.specs.Scopes.{Environment, Object, ProcedureName, declared, is_declared}
use Rattle.ob_typing.specs.Statements.{listed}

-- ---- a name that is declared stays so

there_if : (b : Bool) (o : Object) (found : Option Object) → is_some found ≡ true → is_some (cond b (Some o) found) ≡ true
there_if true o found h = refl
there_if false o found h = h

stays_declared : (env : Environment) (name other : Name) (o : Object) → is_declared env name ≡ true → is_declared (declared env other o) name ≡ true
stays_declared [] name other o h = absurd (cc)
stays_declared (scope ∷ outer) name other o h = there_if (bytes_eq other name) o (scope name) h

same_name : (name : Name) → bytes_eq name name ≡ true
same_name name = (bytes_eq-Decides name name).1 refl

now_declared : (env : Environment) (name : Name) (o : Object) → is_declared (declared env name o) name ≡ true
now_declared [] name o = ap (λ (b : Bool). is_some (cond b (Some o) None)) (same_name name)
now_declared (scope ∷ outer) name o = ap (λ (b : Bool). is_some (cond b (Some o) (scope name))) (same_name name)

-- ---- so exports have names apart

abbrev IsApart : Name → List Export → Type 0
IsApart name es = AllByRecursion (λ (e : Export). bytes_eq name e.name ≡ false) es

abbrev AreApart : List Export → Type 0
AreApart [] = Unit {0}
AreApart (e ∷ es) = IsApart e.name es × AreApart es

differs : (b : Bool) → (b ≡ true → ⊥) → b ≡ false
differs true h = absurd (h refl)
differs false h = refl

kept_apart : (name : Name) (b : Bool) (e : Export) (es : List Export) → bytes_eq name e.name ≡ false → IsApart name es → IsApart name (cond b (e ∷ es) es)
kept_apart name true e es h rest = (h, rest)
kept_apart name false e es h rest = rest

kept_all : (b : Bool) (e : Export) (es : List Export) → IsApart e.name es → AreApart es → AreApart (cond b (e ∷ es) es)
kept_all true e es h rest = (h, rest)
kept_all false e es h rest = rest

abbrev one : Tree.Heading → Export
one heading = record { name = heading.name.text; parameters = formals_in (listed heading.parameters) }

apart_from : {env after : Environment} {n exported : ℕ} {xs : Procedures} {ps : List Procedure} (name : Name) → is_declared env name ≡ true → DeclaresProcedures env n exported xs after ps → IsApart name (exports_in xs)
apart_from name old Typing.none = tt
apart_from name old (Typing.procedure {env = env} {n = n} {heading = heading} {rest = rest} {ps = ps} new parameters simple inner body others) =
    kept_apart name heading.is_exported (one heading) (exports_in rest)
    (differs (bytes_eq name heading.name.text) (λ same. false≢true
    (sym new.new ∙ subst (λ (w : Name). is_declared env w ≡ true) ((bytes_eq-Decides name heading.name.text).0 same) old)))
    (apart_from name (stays_declared env name heading.name.text (ProcedureName n ps) old) others)

all_apart : {env after : Environment} {n exported : ℕ} {xs : Procedures} {ps : List Procedure} → DeclaresProcedures env n exported xs after ps → AreApart (exports_in xs)
all_apart Typing.none = tt
all_apart (Typing.procedure {env = env} {n = n} {heading = heading} {rest = rest} {ps = ps} new parameters simple inner body others) =
    kept_all heading.is_exported (one heading) (exports_in rest)
    (apart_from heading.name.text (now_declared env heading.name.text (ProcedureName n ps)) others) (all_apart others)

declared_apart : {env after : Environment} {n : ℕ} {room : Room} {x : Declarations} {vs : List Variable} {ps : List Procedure} → Declares env n room x after vs ps → AreApart (exports_declared x)
declared_apart (Typing.declarations constants types variables procedures) = all_apart procedures

typed_apart : (m : Module) (program : Program) → WellTyped m program → AreApart (exports_of m)
typed_apart m program (Typing.well_typed declares body) = declared_apart declares

-- ---- the export of a name

apart_at : (name : Name) (ps : List Procedure) (k : ℕ) (s : Signature) → IsApart name (map seen ps) → slice_get (map signature_in ps) k ≡ Some s → bytes_eq name s.name ≡ false
apart_at name [] k s h at = absurd (cc)
apart_at name (p ∷ ps) zero s h at = subst (λ (x : Signature). bytes_eq name x.name ≡ false) (same_Some (signature_in p) s at) h.0
apart_at name (p ∷ ps) (suc k) s h at = apart_at name ps k s h.1 at

abbrev Numbered : Type 0
Numbered = ℕ × Signature

abbrev named_from : ℕ → List Signature → Name → Option Numbered
named_from start xs name = find (λ (e : Numbered). bytes_eq e.1.name name) (enumerate_from start xs)

own_name : (start : ℕ) (ps : List Procedure) → AreApart (map seen ps) → (k : ℕ) (s : Signature) → slice_get (map signature_in ps) k ≡ Some s →
    named_from start (map signature_in ps) s.name ≡ Some (start + k, s)
own_name start [] h k s at = absurd (cc)
own_name start (p ∷ ps) h zero s at =
    let same : signature_in p ≡ s = same_Some (signature_in p) s at in
    let test : bytes_eq p.name s.name ≡ true = ap (λ (x : Signature). bytes_eq p.name x.name) (sym same) ∙ same_name p.name in
    let first : start ≡ start + 0 = omega arith in
    ap (λ (b : Bool). cond b (Some (start, signature_in p)) (named_from (start + 1) (map signature_in ps) s.name)) test
    ∙ ap (λ (x : Signature). Some (start, x)) same ∙ ap (λ (n : ℕ). Some (n, s)) first
own_name start (p ∷ ps) h (suc k) s at =
    let behind : start + 1 + k ≡ start + suc k = omega arith in
    ap (λ (b : Bool). cond b (Some (start, signature_in p)) (named_from (start + 1) (map signature_in ps) s.name)) (apart_at p.name ps k s h.0 at)
    ∙ own_name (start + 1) ps h.1 k s at ∙ ap (λ (n : ℕ). Some (n, s)) behind

-- the name of an export of a well typed module names it
pub own_named : (m : Module) (program : Program) → WellTyped m program → (k : ℕ) (s : Signature) → slice_get (signatures program) k ≡ Some s →
    export_named (signatures program) s.name ≡ Some (k, s)
own_named m program typed k s at =
    let apart : AreApart (map seen (exports program)) = subst AreApart (sym (exports_are_seen m program typed)) (typed_apart m program typed) in
    let here : 0 + k ≡ k = omega arith in
    own_name 0 (exports program) apart k s at ∙ ap (λ (n : ℕ). Some (n, s)) here
