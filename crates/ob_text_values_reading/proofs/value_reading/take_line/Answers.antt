use Rattle.std.proofs.Common.{◌≡◌, ◌∷◌, [], ◌++◌, List, map, ap, sym, subst, ◌∙◌, string_bytes, true, false}
use Rattle.std.proofs.lemmas.Bool.{false≢true}
use Rattle.std.proofs.lemmas.List.{map-append}
use Rattle.std.specs.BTreeSet.{contains_text}
use Rattle.ob_carry.specs.Carried.{Entry}
use Rattle.ob_carry.specs.View.{entry_of}
use Rattle.ob_text_words.specs.Words.{words}
use Rattle.ob_text_values_reading.proofs.Indexing.{indexed_more, new_name, old_name}
use Rattle.ob_text_values_reading.proofs.VariableLines.{no_next, told_twice}
use Rattle.ob_text_values_reading.specs.Indexed.{IsIndexed}
use Rattle.ob_text_values_reading.specs.ReadValues as Told
use Rattle.ob_text_values_reading.specs.ReadValues.{LeadsOn}
use Rattle.ob_text_values_reading.proofs.value_reading.take_line.Goals as goal

pub returns-then-not-begins_with-clause-told : goal.returns-then-not-begins_with-clause-told
returns-then-not-begins_with-clause-told c = Told.other (λ h. false≢true (sym c.if-not-begins_with.true ∙ c.begins_with.ensures.1 h))

pub returns-in_default-clause-told : goal.returns-in_default-clause-told
returns-in_default-clause-told c =
    no_next _ _ (c.begins_with.ensures.0 c.if-not-begins_with.false) (λ e h new. (rw c.in_default.is at c.in_ok-field.ensures) e h)

pub returns-then-contains-clause-told : goal.returns-then-contains-clause-told
returns-then-contains-clause-told c =
    let told : contains_text c.args.names.now (string_bytes c.in-Some.field.name) ≡ true =
    ap (contains_text c.args.names.now) (sym c.as_str.ensures.value) ∙ sym c.contains.ensures ∙ c.if-contains.true in
    told_twice _ _ (entry_of c.in-Some.field) (c.begins_with.ensures.0 c.if-not-begins_with.false) (rw c.in-Some.is at c.in_ok-field.ensures)
    (old_name c.args.names.now _ (string_bytes c.in-Some.field.name) c.requires told)

pub returns-clause-indexed : goal.returns-clause-indexed
returns-clause-indexed c =
    let parts : map entry_of c.push.new.self.items ≡ map entry_of c.args.fields.now.items ++ entry_of c.in-Some.field ∷ [] =
    ap (map entry_of) c.in_ok-push.ensures.items ∙ map-append entry_of c.args.fields.now.items (c.in-Some.field ∷ []) in
    subst (λ (told : List Entry). IsIndexed c.insert.new.self told) (sym parts)
    (indexed_more c.args.names.now c.insert.new.self c.in_ok-clone.field-0 _ (entry_of c.in-Some.field) c.in_ok-clone.ensures.cases c.requires c.in_ok-insert.ensures.updates)

pub returns-clause-told : goal.returns-clause-told
returns-clause-told c =
    let parts : map entry_of c.push.new.self.items ≡ map entry_of c.args.fields.now.items ++ entry_of c.in-Some.field ∷ [] =
    ap (map entry_of) c.in_ok-push.ensures.items ∙ map-append entry_of c.args.fields.now.items (c.in-Some.field ∷ []) in
    let new : contains_text c.args.names.now (string_bytes c.in-Some.field.name) ≡ false =
    ap (contains_text c.args.names.now) (sym c.as_str.ensures.value) ∙ sym c.contains.ensures ∙ c.if-contains.false in
    subst (λ (told : List Entry). LeadsOn (map entry_of c.args.fields.now.items) (words c.args.line.now) told) (sym parts)
    (Told.variable (rw c.in-Some.is at c.in_ok-field.ensures) (new_name c.args.names.now _ (string_bytes c.in-Some.field.name) c.requires new))
