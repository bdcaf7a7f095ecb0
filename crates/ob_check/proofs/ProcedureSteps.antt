-- The verdict on a procedure, in front of others.
use Rattle.std.proofs.Common.{◌≡◌, ◌≤◌, ℕ, suc, ◌+◌, Bool, true, List, [], ◌∷◌, ◌++◌, length, map, Option, Some, None, arith, refl, sym, ap, ◌∙◌}
use Rattle.std.specs.Prelude.{◌&&◌, ◌||◌, not, option_map, string_bytes}
use Rattle.std.proofs.lemmas.List.{length-append, length-map}
use Rattle.ob_grammar.specs.Tree
use Rattle.ob_grammar.specs.Tree.{Heading, Stmts}
use Rattle.ob_typing.specs.declared.rule.Rule.{Rule}
use Rattle.ob_typing.specs.declared.rule.Rule.TheVariants.{BadExport}
use Rattle.ob_typing.specs.Program as Programs
use Rattle.ob_typing.specs.Scopes.{Environment, no_names}
use Rattle.ob_typing.specs.Statements.{listed}
use Rattle.ob_grammar.specs.declared.tree.Declarations.{Declarations}
use Rattle.ob_grammar.specs.declared.tree.Declarations.TheViews.{out-Declarations}
use Rattle.ob_grammar.specs.View.{declarations_of, constants_of, types_of, variables_of, procedures_in}
use Rattle.ob_grammar.proofs.Rows.{declarations_of-parts}
use Rattle.ob_typing.specs.Declarations.{declared_by, Room, exports_behind, with_procedure, inner_scope, frame_room, all_simple}
use Rattle.ob_typing.specs.DeclarationFaults.{heading_broken}
use Rattle.ob_typing.specs.ExpressionFaults.{broken}
use Rattle.ob_typing.specs.Verdict.{Verdict, Right, Wrong, ◌>>=◌, unless, test}
use Rattle.ob_typing.specs.StatementVerdicts.{body_checked}
use Rattle.ob_typing.specs.ModuleVerdicts.{WithParameters, WithVariables, WithProcedures, WithAll, constants, types, variables, parameters, procedures, declarations}
use Rattle.ob_checked.specs.declared.program.Procedure.{Procedure}
use Rattle.ob_checked.specs.Types.{Entry, Extends}
use Rattle.ob_checked.specs.View.{procedure_of, parameter_of, variable_of, statements_in}
use Rattle.ob_scopes.specs.Objects.{known_parameters}
use Rattle.ob_rules.specs.Checking.{and_then}
use Rattle.ob_rules.specs.CheckingVariables.{known_variables}
use Rattle.ob_rules.proofs.Steps.{bind_assoc, bind_same}
use Rattle.ob_scopes.proofs.Kept.{and_both, and_left, and_right, parameters_more, parameters_kept}
use Rattle.ob_rules.proofs.DeclarationSteps.{variables_more, variables_kept}
use Rattle.ob_check.specs.CheckingProcedures.{Behind, known_procedures, behind_procedures, headed, behind_heading}

-- procedures under a table that went on
module _ (n : ℕ) (p : Procedure) (ps : List Procedure) (b : known_procedures n (p ∷ ps) ≡ true) where
  pub first_parameters : known_parameters n p.parameters.items ≡ true
  first_parameters = and_left (known_parameters n p.parameters.items) (known_variables n p.variables.items && known_procedures n ps) b

  behind_parameters : (known_variables n p.variables.items && known_procedures n ps) ≡ true
  behind_parameters = and_right (known_parameters n p.parameters.items) (known_variables n p.variables.items && known_procedures n ps) b

  pub first_variables : known_variables n p.variables.items ≡ true
  first_variables = and_left (known_variables n p.variables.items) (known_procedures n ps) behind_parameters

  pub other_procedures : known_procedures n ps ≡ true
  other_procedures = and_right (known_variables n p.variables.items) (known_procedures n ps) behind_parameters

pub known_with : (n : ℕ) (p : Procedure) (ps : List Procedure) → known_parameters n p.parameters.items ≡ true → known_variables n p.variables.items ≡ true →
    known_procedures n ps ≡ true → known_procedures n (p ∷ ps) ≡ true
known_with n p ps a b c =
    and_both (known_parameters n p.parameters.items) (known_variables n p.variables.items && known_procedures n ps) a
    (and_both (known_variables n p.variables.items) (known_procedures n ps) b c)

pub procedures_more : (n m : ℕ) → n ≤ m → (ps : List Procedure) → known_procedures n ps ≡ true → known_procedures m ps ≡ true
procedures_more n m h [] b = refl
procedures_more n m h (p ∷ ps) b =
    known_with m p ps (parameters_more n m h p.parameters.items (first_parameters n p ps b)) (variables_more n m h p.variables.items (first_variables n p ps b))
    (procedures_more n m h ps (other_procedures n p ps b))

pub procedures_joined : (n : ℕ) (ps qs : List Procedure) → known_procedures n ps ≡ true → known_procedures n qs ≡ true → known_procedures n (ps ++ qs) ≡ true
procedures_joined n [] qs b c = c
procedures_joined n (p ∷ ps) qs b c =
    known_with n p (ps ++ qs) (first_parameters n p ps b) (first_variables n p ps b) (procedures_joined n ps qs (other_procedures n p ps b) c)

pub procedures_kept : (es fs : List Entry) → Extends es fs → (ps : List Procedure) → known_procedures (length es) ps ≡ true → map (procedure_of fs) ps ≡ map (procedure_of es) ps
procedures_kept es fs h [] b = refl
procedures_kept es fs h (p ∷ ps) b =
    let n = length es in
    let with : List Programs.Parameter → List Programs.Variable → Programs.Procedure =
    λ us vs. record { name = string_bytes p.name; is_exported = p.is_exported; parameters = us; variables = vs; body = statements_in p.body.items } in
    ap (λ us. with us (map (variable_of fs) p.variables.items) ∷ map (procedure_of fs) ps) (parameters_kept es fs h p.parameters.items (first_parameters n p ps b))
    ∙ ap (λ vs. with (map (parameter_of es) p.parameters.items) vs ∷ map (procedure_of fs) ps) (variables_kept es fs h p.variables.items (first_variables n p ps b))
    ∙ ap (λ qs. procedure_of es p ∷ qs) (procedures_kept es fs h ps (other_procedures n p ps b))

module _ (env : Environment) (n exported : ℕ) (heading : Heading) (inner : Tree.Declarations) (body : Option Stmts) (end_name : Tree.Name) (rest : Tree.Procedures) where
  abbrev whole : Verdict WithProcedures
  whole = procedures (Tree.procedure heading inner body end_name rest) env n exported

  -- behind a procedure
  abbrev pub behind_procedure : List Programs.Parameter → Behind → Verdict WithProcedures
  behind_procedure ps b =
      ◌>>=◌ (procedures rest (with_procedure env n heading ps) (suc n + length b.procedures) (exports_behind exported heading)) (λ o.
      Right (record { env = o.env; procedures = record { name = heading.name.text; is_exported = heading.is_exported; parameters = ps; variables = b.variables; body = b.body } ∷ b.procedures ++ o.procedures }))

  -- behind its heading
  abbrev pub behind_headed : WithParameters → Verdict WithProcedures
  behind_headed h = ◌>>=◌ (behind_heading h.env n (length h.parameters) inner body) (behind_procedure h.parameters)

  in_parts : ◌>>=◌ (headed env n heading) behind_headed
      ≡ ◌>>=◌ (parameters (listed heading.parameters) (no_names ∷ env) 0) (λ ps.
      ◌>>=◌ (test (not heading.is_exported || all_simple ps.parameters) BadExport heading.name.place) (λ simple.
      ◌>>=◌ (declarations inner (inner_scope ps.env (with_procedure env n heading ps.parameters)) (suc n) (frame_room (length ps.parameters))) (λ ds.
      ◌>>=◌ (body_checked ds.env body) (λ ss.
      behind_procedure ps.parameters (record { env = ds.env; variables = ds.variables; procedures = ds.procedures; body = ss })))))
  in_parts =
      bind_assoc (parameters (listed heading.parameters) (no_names ∷ env) 0) _ behind_headed
      ∙ bind_same (parameters (listed heading.parameters) (no_names ∷ env) 0) _ _ (λ ps.
      bind_assoc (test (not heading.is_exported || all_simple ps.parameters) BadExport heading.name.place) _ behind_headed
      ∙ bind_same (test (not heading.is_exported || all_simple ps.parameters) BadExport heading.name.place) _ _ (λ simple.
      bind_assoc (declarations inner (inner_scope ps.env (with_procedure env n heading ps.parameters)) (suc n) (frame_room (length ps.parameters))) _ (behind_procedure ps.parameters)
      ∙ bind_same (declarations inner (inner_scope ps.env (with_procedure env n heading ps.parameters)) (suc n) (frame_room (length ps.parameters))) _ _ (λ ds.
      bind_assoc (body_checked ds.env body) _ (behind_procedure ps.parameters))))

  pub heading_wrong : (rule : Rule) → heading_broken env exported heading ≡ Some rule → whole ≡ Wrong (broken rule heading.name.place)
  heading_wrong rule h = rw h refl

  pub heading_tested : whole ≡ ◌>>=◌ (unless (heading_broken env exported heading) heading.name.place) (λ new. ◌>>=◌ (headed env n heading) behind_headed)
  heading_tested = bind_same (unless (heading_broken env exported heading) heading.name.place) _ _ (λ new. sym in_parts)

  module _ (free : heading_broken env exported heading ≡ None) where
    pub heading_free : whole ≡ ◌>>=◌ (headed env n heading) behind_headed
    heading_free = heading_tested ∙ ap (λ o. ◌>>=◌ (unless o heading.name.place) (λ new. ◌>>=◌ (headed env n heading) behind_headed)) free

    module _ (h : WithParameters) (right : headed env n heading ≡ Right h) where
      pub heading_right : whole ≡ behind_headed h
      heading_right = heading_free ∙ ap (λ v. ◌>>=◌ v behind_headed) right

      pub procedure_right : (b : Behind) → behind_heading h.env n (length h.parameters) inner body ≡ Right b → whole ≡ behind_procedure h.parameters b
      procedure_right b typed = heading_right ∙ ap (λ v. ◌>>=◌ v (behind_procedure h.parameters)) typed

-- a procedure and those within it in front of others, and all these behind those so far
abbrev joined : Verdict WithProcedures → Programs.Procedure → List Programs.Procedure → Verdict WithProcedures
joined v q ws = ◌>>=◌ v (λ o. Right (record { env = o.env; procedures = q ∷ ws ++ o.procedures }))

abbrev behind_these : List Programs.Procedure → WithProcedures → Verdict WithProcedures
behind_these vs o = Right (record { env = o.env; procedures = vs ++ o.procedures })

module _ (types : List Entry) (vs : List Programs.Procedure) (p : Procedure) (within : List Procedure) (go : ℕ → Verdict WithProcedures) where
  mapped : (xs : List Procedure) (os : List Programs.Procedure) →
      map (procedure_of types) xs ++ (procedure_of types p ∷ map (procedure_of types) within ++ os) ≡ map (procedure_of types) ((xs ++ p ∷ []) ++ within) ++ os
  mapped [] os = over within
    where
      over : (ws : List Procedure) → procedure_of types p ∷ map (procedure_of types) ws ++ os ≡ map (procedure_of types) (p ∷ ws) ++ os
      over ws = refl
  mapped (x ∷ xs) os = ap (λ us. procedure_of types x ∷ us) (mapped xs os)

  pub behind_joined : (n first : ℕ) (qs ps : List Procedure) → qs ≡ (ps ++ p ∷ []) ++ within → vs ≡ map (procedure_of types) ps → n ≡ first + length ps →
      ◌>>=◌ (joined (go (suc n + length (map (procedure_of types) within))) (procedure_of types p) (map (procedure_of types) within)) (behind_these vs)
      ≡ ◌>>=◌ (go (first + length qs)) (behind_procedures types qs)
  behind_joined n first qs ps items were count =
      let number : suc n + length (map (procedure_of types) within) ≡ first + length qs =
      omega (arith, count, ap length items, length-append (ps ++ p ∷ []) within, length-append ps (p ∷ []), length-map within (procedure_of types)) in
      let all : (os : List Programs.Procedure) → vs ++ (procedure_of types p ∷ map (procedure_of types) within ++ os) ≡ map (procedure_of types) qs ++ os =
      λ os. ap (λ us. us ++ (procedure_of types p ∷ map (procedure_of types) within ++ os)) were ∙ mapped ps os
      ∙ ap (λ xs. map (procedure_of types) xs ++ os) (sym items) in
      bind_assoc (go (suc n + length (map (procedure_of types) within))) _ (behind_these vs)
      ∙ bind_same (go (suc n + length (map (procedure_of types) within))) _ (behind_procedures types qs)
      (λ o. ap (λ us. Right (record { env = o.env; procedures = us })) (all o.procedures))
      ∙ ap (λ m. ◌>>=◌ (go m) (behind_procedures types qs)) number

-- a procedure in front of others, behind those so far
module _ (env : Environment) (n exported : ℕ) (heading : Heading) (inner : Tree.Declarations) (body : Option Stmts) (end_name : Tree.Name) (rest : Tree.Procedures) where
  module _ (old mid new : List Entry) (grown : Extends old new) (on : Extends mid new) (p : Procedure) (within vs qs : List Procedure) (inside last after : Environment) where
    abbrev ps : List Programs.Parameter
    ps = map (parameter_of mid) p.parameters.items

    abbrev parts : Behind
    parts = record { env = last; variables = map (variable_of new) p.variables.items; procedures = map (procedure_of new) within; body = statements_in p.body.items }

    named_as : (text : List ℕ) (b : Bool) (us : List Programs.Parameter) → string_bytes p.name ≡ text → p.is_exported ≡ b → map (parameter_of new) p.parameters.items ≡ us →
        procedure_of new p ≡ record { name = text; is_exported = b; parameters = us; variables = map (variable_of new) p.variables.items; body = statements_in p.body.items }
    named_as text b us h k l =
        ap (λ t. with t p.is_exported (map (parameter_of new) p.parameters.items)) h ∙ ap (λ c. with text c (map (parameter_of new) p.parameters.items)) k ∙ ap (λ ws. with text b ws) l
      where
        with : List ℕ → Bool → List Programs.Parameter → Programs.Procedure
        with t c ws = record { name = t; is_exported = c; parameters = ws; variables = map (variable_of new) p.variables.items; body = statements_in p.body.items }

    pub procedure_step : heading_broken env exported heading ≡ None →
        headed env n heading ≡ Right (record { env = inside; parameters = map (parameter_of mid) p.parameters.items }) →
        behind_heading inside n (length p.parameters.items) inner body
        ≡ Right (record { env = last; variables = map (variable_of new) p.variables.items; procedures = map (procedure_of new) within; body = statements_in p.body.items }) →
        string_bytes p.name ≡ heading.name.text → p.is_exported ≡ heading.is_exported → known_parameters (length mid) p.parameters.items ≡ true →
        known_procedures (length old) vs ≡ true → after ≡ with_procedure env n heading (map (parameter_of mid) p.parameters.items) → (first e : ℕ) →
        e ≡ exports_behind exported heading → qs ≡ (vs ++ p ∷ []) ++ within → n ≡ first + length vs →
        and_then (procedures (Tree.procedure heading inner body end_name rest) env n exported) (behind_procedures old vs)
        ≡ and_then (procedures rest after (first + length qs) e) (behind_procedures new qs)
    procedure_step free headed' typed text marked known known' is first e exports items count =
        let counted : length p.parameters.items ≡ length ps = omega (arith, length-map p.parameters.items (parameter_of mid)) in
        let typed' : behind_heading inside n (length ps) inner body ≡ Right parts = ap (λ k. behind_heading inside n k inner body) (sym counted) ∙ typed in
        let whole = procedure_right env n exported heading inner body end_name rest free (record { env = inside; parameters = ps }) headed' parts typed' in
        let same = named_as heading.name.text heading.is_exported ps text marked (parameters_kept mid new on p.parameters.items known) in
        let were : map (procedure_of old) vs ≡ map (procedure_of new) vs = sym (procedures_kept old new grown vs known') in
        let k = suc n + length (map (procedure_of new) within) in
        let ws = map (procedure_of new) within in
        ap (λ v. ◌>>=◌ v (behind_procedures old vs)) whole
        ∙ ap (λ q. ◌>>=◌ (joined (procedures rest (with_procedure env n heading ps) k (exports_behind exported heading)) q ws) (behind_procedures old vs)) (sym same)
        ∙ ap (λ a. ◌>>=◌ (joined (procedures rest a k (exports_behind exported heading)) (procedure_of new p) ws) (behind_procedures old vs)) (sym is)
        ∙ ap (λ x. ◌>>=◌ (joined (procedures rest after k x) (procedure_of new p) ws) (behind_procedures old vs)) (sym exports)
        ∙ behind_joined new (map (procedure_of old) vs) p within (λ m. procedures rest after m e) n first qs vs items were count

-- declarations in parts
module _ (env : Environment) (n : ℕ) (room : Room) (d : Declarations) where
  abbrev pub declared_parts : List Tree.ConstDecl → List Tree.TypeDecl → List Tree.VarDecl → Tree.Procedures → Verdict WithAll
  declared_parts cs ts vs ps =
      ◌>>=◌ (constants cs env) (λ env1.
      ◌>>=◌ (types ts env1) (λ env2.
      ◌>>=◌ (variables vs env2 room) (λ us.
      ◌>>=◌ (procedures ps us.env n 0) (λ qs.
      Right (record { env = qs.env; variables = us.variables; procedures = qs.procedures })))))

  pub in_declared_parts : declarations (declarations_of d) env n room
      ≡ declared_parts (declared_by (option_map constants_of (out-Declarations d).constants)) (declared_by (option_map types_of (out-Declarations d).types))
      (declared_by (option_map variables_of (out-Declarations d).variables)) (procedures_in (out-Declarations d).procedures.items)
  in_declared_parts = ap (λ t. declarations t env n room) (declarations_of-parts d)

  -- behind what is right before the procedures
  pub parts_before : (cs : List Tree.ConstDecl) (ts : List Tree.TypeDecl) (vs : List Tree.VarDecl) (ps : Tree.Procedures) (env1 env2 : Environment) (us : WithVariables) →
      constants cs env ≡ Right env1 → types ts env1 ≡ Right env2 → variables vs env2 room ≡ Right us →
      declared_parts cs ts vs ps ≡ ◌>>=◌ (procedures ps us.env n 0) (λ qs. Right (record { env = qs.env; variables = us.variables; procedures = qs.procedures }))
  parts_before cs ts vs ps env1 env2 us c t v = rw c (rw t (rw v refl))
