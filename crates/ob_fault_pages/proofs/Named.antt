-- Which words have a page: the names of the faults.
use Rattle.std.proofs.Common.{◌≡◌, ◌∙◌, ◌||◌, ◌++◌, ◌∷◌, [], ℕ, Bool, true, false, List, Option, Some, None, ap, bytes_eq, cond, find, is_some, map, option_map, refl, sym}
use Rattle.std.specs.List.{list_any}
use Rattle.std.proofs.lemmas.List.Folds.{list_any-append}
use Rattle.std.proofs.lemmas.Slice.Eq.{bytes_eq-Decides}
use Rattle.ob_command.specs.CommandLine.{fault_names, names_fault}
use Rattle.ob_fault_pages.specs.Pages.{Page, script_rows, either, module_page, object_rows, page_in, page_of, record_rows, rule_rows, run_rows, text_rows, texts_page, trap_rows}

abbrev names_in : List Page → List (List ℕ)
names_in rows = map (λ row. row.name) rows

abbrev module_names : List (List ℕ)
module_names = (names_in trap_rows ++ names_in text_rows) ++ (names_in rule_rows ++ names_in object_rows)

abbrev texts_names : List (List ℕ)
texts_names = (names_in script_rows ++ names_in run_rows) ++ names_in record_rows

-- the faults are listed as the tables have them
listed : fault_names ≡ module_names ++ texts_names
unfolding fault_names trap_rows text_rows rule_rows object_rows script_rows run_rows record_rows
listed = refl

turned : (a b : List ℕ) → bytes_eq a b ≡ bytes_eq b a
turned a b = at (bytes_eq a b) (bytes_eq b a) refl refl
  where
    at : (r s : Bool) → bytes_eq a b ≡ r → bytes_eq b a ≡ s → r ≡ s
    at true true p q = refl
    at false false p q = refl
    at true false p q = sym ((bytes_eq-Decides b a).1 (sym ((bytes_eq-Decides a b).0 p))) ∙ q
    at false true p q = sym p ∙ (bytes_eq-Decides a b).1 (sym ((bytes_eq-Decides b a).0 q))

-- a table has a page for the names of its rows, and of two tables either may have it
in_table : (rows : List Page) (word : List ℕ) → is_some (page_in rows word) ≡ list_any (bytes_eq word) (names_in rows)
in_table [] word = refl
in_table (row ∷ rows) word = at (bytes_eq row.name word) (in_table rows word) ∙ ap (λ (b : Bool). b || list_any (bytes_eq word) (names_in rows)) (turned row.name word)
  where
    at : (b : Bool) → is_some (page_in rows word) ≡ list_any (bytes_eq word) (names_in rows)
        → is_some (option_map (λ (r : Page). r.text) (cond b (Some row) (find (λ (r : Page). bytes_eq r.name word) rows))) ≡ (b || list_any (bytes_eq word) (names_in rows))
    at true rest = refl
    at false rest = rest

in_either : (first second : Option (List ℕ)) → is_some (either first second) ≡ (is_some first || is_some second)
in_either (Some text) second = refl
in_either None second = refl

in_both : (first second : Option (List ℕ)) (xs ys : List (List ℕ)) (word : List ℕ) → is_some first ≡ list_any (bytes_eq word) xs → is_some second ≡ list_any (bytes_eq word) ys
    → is_some (either first second) ≡ list_any (bytes_eq word) (xs ++ ys)
in_both first second xs ys word p q =
    in_either first second ∙ (ap (λ (b : Bool). b || is_some second) p ∙ (ap (λ (b : Bool). list_any (bytes_eq word) xs || b) q ∙ sym (list_any-append (bytes_eq word) xs ys)))

two_tables : (rows others : List Page) (word : List ℕ) → is_some (either (page_in rows word) (page_in others word)) ≡ list_any (bytes_eq word) (names_in rows ++ names_in others)
two_tables rows others word =
    in_both (page_in rows word) (page_in others word) (names_in rows) (names_in others) word (in_table rows word) (in_table others word)

of_module : (word : List ℕ) → is_some (module_page word) ≡ list_any (bytes_eq word) module_names
of_module word =
    in_both (either (page_in trap_rows word) (page_in text_rows word)) (either (page_in rule_rows word) (page_in object_rows word))
    (names_in trap_rows ++ names_in text_rows) (names_in rule_rows ++ names_in object_rows) word (two_tables trap_rows text_rows word) (two_tables rule_rows object_rows word)

of_texts : (word : List ℕ) → is_some (texts_page word) ≡ list_any (bytes_eq word) texts_names
of_texts word =
    in_both (either (page_in script_rows word) (page_in run_rows word)) (page_in record_rows word) (names_in script_rows ++ names_in run_rows) (names_in record_rows) word
    (two_tables script_rows run_rows word) (in_table record_rows word)

pub named : (word : List ℕ) → names_fault word ≡ is_some (page_of word)
named word =
    ap (λ (names : List (List ℕ)). list_any (bytes_eq word) names) listed
    ∙ sym (in_both (module_page word) (texts_page word) module_names texts_names word (of_module word) (of_texts word))
