-- What an engine over a tree knows of its program, from what it was told of the program's layout and exports.
use Rattle.std.proofs.Common.{◌≡◌, ℕ, suc, ◌≤◌, ◌<◌, true, List, [], length, map, Some, refl, sym, ap, ◌∙◌, subst, arith}
use Rattle.std.specs.Prelude.{ℤ, pos, negsuc, slice_get}
use Rattle.std.specs.Coded.{Coded, Coded-set, coded_ℕ, coded_list, coded×, code_by}
use Rattle.std.proofs.Math.Logic.{∥∥₁_elim}
use Rattle.std.proofs.Math.Bridge.{le_prop}
use Rattle.std.proofs.lemmas.Option.{slice_get_past}
use Rattle.ob_typing.specs.Program.{Name, DataType, Variable, Procedure, Program}
use Rattle.ob_code_engine.specs.contracts.entrance.Entrance as Entrances
use Rattle.ob_layout.specs.Counted.{counted}
use Rattle.ob_layout.specs.Layout.{LayoutParts, layout_of}
use Rattle.ob_code_correct.specs.CodeMeaning.{Entrance, entrance_at, most, value_count}
use Rattle.ob_code_correct.specs.Compiled.{entrances_from}
use Rattle.ob_code_correct.proofs.ExportLaw as Exports
use Rattle.ob_code_scheme.specs.Types.{Scope, parameters_scope, variables_scope, frame_scope}
use Rattle.ob_code_scheme.specs.Layout.{variable_words}
use Rattle.ob_code_scheme.specs.Scheme.{code_of}
use Rattle.ob_code_scheme.specs.Temporaries.{stack_words}
use Rattle.ob_code_scheme.specs.WellFormed.{IsWellFormed}
use Rattle.ob_code_scheme.proofs.Small.{few_stack_words}
use Rattle.ob_code_scheme.proofs.Fine.{fine_procedure, extent-append}
use Rattle.ob_tree_tasks.specs.Codes.{coded_type, coded_scope}
use Rattle.ob_tree_law.specs.TreeEngine.{work_room, tree_empty, IsTreeReady}
use Rattle.ob_tree_law.proofs.Whole.{tree_parts_lawful}
use Rattle.ob_tree.specs.Procedures.{AreSmallFrames}
use Rattle.ob_tree.specs.Rooms.{most_room}

-- ---- layouts and lists of exports have a code, so that what is told of them is one fact

abbrev coded_variable : Coded Variable
coded_variable = code_by (Name × DataType) (coded× (coded_list coded_ℕ) coded_type) (λ v. (v.name, v.type)) (λ p. record { name = p.0; type = p.1 }) (λ _. refl)

abbrev coded_layout : Coded LayoutParts
coded_layout =
    code_by (List Variable × (List Scope × ℕ)) (coded× (coded_list coded_variable) (coded× (coded_list coded_scope) coded_ℕ))
    (λ l. (l.variables, (l.frames, l.stack_words))) (λ p. record { variables = p.0; frames = p.1.0; stack_words = p.1.1 }) (λ _. refl)

pub layout_is : (a b : LayoutParts) → ∥ a ≡ b ∥₁ → a ≡ b
layout_is a b h = ∥∥₁_elim h (Coded-set coded_layout a b) (λ e. e)

pub exports_are : (a b : List Entrance) → ∥ a ≡ b ∥₁ → a ≡ b
exports_are a b h = ∥∥₁_elim h (Coded-set (coded_list Entrances.the_row.coded) a b) (λ e. e)

-- ---- of the layout

pub frames_are : (l : LayoutParts) (program here : Program) → ∥ l ≡ layout_of program ∥₁ → here ≡ program → l.frames ≡ map frame_scope here.procedures
frames_are l program here h e = ap (λ (k : LayoutParts). k.frames) (layout_is l (layout_of program) h) ∙ ap (λ (p : Program). map frame_scope p.procedures) (sym e)

pub variables_are : (l : LayoutParts) (program here : Program) → ∥ l ≡ layout_of program ∥₁ → here ≡ program → l.variables ≡ here.variables
variables_are l program here h e = ap (λ (k : LayoutParts). k.variables) (layout_is l (layout_of program) h) ∙ ap (λ (p : Program). p.variables) (sym e)

-- ---- of a well-formed program

pub few_in_block : (program here : Program) → ∥ IsWellFormed program ∥₁ → here ≡ program → variable_words here.variables ≤ 4096
few_in_block program here well e = subst (λ (p : Program). variable_words p.variables ≤ 4096) (sym e) (∥∥₁_elim well le_prop (λ w. w.variables))

pub few_in_stack : (program : Program) → ∥ IsWellFormed program ∥₁ → stack_words program.procedures ≤ 91592
few_in_stack program well = ∥∥₁_elim well le_prop (few_stack_words program)

small_frame : (program : Program) (w : IsWellFormed program) (i : ℕ) (p : Procedure) → slice_get program.procedures i ≡ Some p → variable_words p.variables ≤ 65535
small_frame program w i p h =
    let fine = (fine_procedure program i p w h).frame in
    let both = extent-append (parameters_scope p.parameters) (variables_scope p.variables) in
    omega (arith, fine, both)

pub small_frames : (program here : Program) → ∥ IsWellFormed program ∥₁ → here ≡ program → AreSmallFrames here.procedures
small_frames program here well e =
    subst (λ (p : Program). AreSmallFrames p.procedures) (sym e) (λ i p h. ∥∥₁_elim well le_prop (λ w. small_frame program w i p h))

pub few : (program : Program) → ∥ IsWellFormed program ∥₁ → (i : ℕ) (x : Entrance) → slice_get (entrances_from 0 program.procedures) i ≡ Some x → length x.parameters ≤ 8
few program well i x h = ∥∥₁_elim well le_prop (λ w. Exports.few program w i x h)

pub few_at : (program : Program) → ∥ IsWellFormed program ∥₁ → (z : ℤ) (x : Entrance) → entrance_at (entrances_from 0 program.procedures) z ≡ Some x → length x.parameters ≤ 8
few_at program well (pos n) x h = few program well n x h
few_at program well (negsuc n) x h = absurd (cc)

-- ---- of runs

pub empty_ready : (program : Program) (r m : ℕ) → r ≡ stack_words program.procedures → m ≡ work_room program →
    IsTreeReady program (record { reserve = r; room = m; is_over = true; body = tree_empty })
empty_ready program r m a b = record {
  reserve = a;
  room = b;
  within = record { low = tt; depth = omega arith };
  opened = tt;
  stands = record { pc = length (code_of program).instructions; saved = []; frames = refl; stands = slice_get_past (code_of program).instructions _ (omega arith) };
}

-- ---- numbers within the limits

-- so the count of a stack's words is exact
pub counted_stack : (program : Program) → ∥ IsWellFormed program ∥₁ → counted (stack_words program.procedures) ≡ stack_words program.procedures
counted_stack program well = let few = few_in_stack program well in omega (arith, few)

-- and that of tasks, which are few
pub counted_tasks : (n m : ℕ) → n ≡ counted m → m ≤ most_room → n ≡ m
counted_tasks n m is few = omega (arith, is, few)

pub few_values : (program : Program) (budget n : ℕ) → ∥ IsWellFormed program ∥₁ → n ≡ most value_count (entrances_from 0 program.procedures) → n < 4294967295
few_values program budget n well e =
    let limit : suc (most value_count (entrances_from 0 program.procedures)) < 4294967296 = (tree_parts_lawful program budget well).few_arguments in
    omega (arith, limit, e)
