-- Which page a fault has: that of its row.
use Rattle.std.specs.Prelude.{ℕ, List, [], map, find, Option, Some, None, option_map, unwrap_or}
use Rattle.std.specs.Str.{bytes_eq}
use denote.Bor.{Bor}
use Rattle.ob_fault_pages.specs.declared.page.PageOf.{PageOf}
use Rattle.ob_fault_pages.specs.declared.script_rows.TheConstants.{SCRIPT_ROWS}
use Rattle.ob_fault_pages.specs.declared.object_rows.TheConstants.{OBJECT_ROWS}
use Rattle.ob_fault_pages.specs.declared.record_rows.TheConstants.{RECORD_ROWS}
use Rattle.ob_fault_pages.specs.declared.rule_rows.TheConstants.{RULE_ROWS}
use Rattle.ob_fault_pages.specs.declared.run_rows.TheConstants.{RUN_ROWS}
use Rattle.ob_fault_pages.specs.declared.text_rows.TheConstants.{TEXT_ROWS}
use Rattle.ob_fault_pages.specs.declared.trap_rows.TheConstants.{TRAP_ROWS}

-- a row, without where its texts lie in memory
abbrev pub Page : Type 0
Page = PageOf (List ℕ)

abbrev pub page_by : {Text : Type 0} → (Text → List ℕ) → PageOf Text → Page
page_by text row = record { name = text row.name; text = text row.text }

abbrev pub row_of : PageOf (Bor (List ℕ)) → Page
row_of = page_by (λ text. text.now)

-- ---- the tables: traps and want of memory; bytes and grammar of a module; its rules; its object; scripts, numbers and schedules; pictures,
-- workers and desks; records and orders of calls

unfoldable pub trap_rows : List Page
trap_rows = map (λ row. page_by (λ text. text.now) row) TRAP_ROWS.now

unfoldable pub text_rows : List Page
text_rows = map (λ row. page_by (λ text. text.now) row) TEXT_ROWS.now

unfoldable pub rule_rows : List Page
rule_rows = map (λ row. page_by (λ text. text.now) row) RULE_ROWS.now

unfoldable pub object_rows : List Page
object_rows = map (λ row. page_by (λ text. text.now) row) OBJECT_ROWS.now

unfoldable pub script_rows : List Page
script_rows = map (λ row. page_by (λ text. text.now) row) SCRIPT_ROWS.now

unfoldable pub run_rows : List Page
run_rows = map (λ row. page_by (λ text. text.now) row) RUN_ROWS.now

unfoldable pub record_rows : List Page
record_rows = map (λ row. page_by (λ text. text.now) row) RECORD_ROWS.now

-- ---- the page of a name

-- in a table the page of the first row of this name
abbrev pub page_in : List Page → (name : List ℕ) → Option (List ℕ)
page_in rows name = option_map (λ row. row.text) (find (λ row. bytes_eq row.name name) rows)

abbrev pub either : Option (List ℕ) → Option (List ℕ) → Option (List ℕ)
either (Some text) other = Some text
either None other = other

-- a trap, or a fault of a module or its object
abbrev pub module_page : (name : List ℕ) → Option (List ℕ)
module_page name =
    either (either (page_in trap_rows name) (page_in text_rows name)) (either (page_in rule_rows name) (page_in object_rows name))

-- a fault of the other texts, and of what is made of them
abbrev pub texts_page : (name : List ℕ) → Option (List ℕ)
texts_page name = either (either (page_in script_rows name) (page_in run_rows name)) (page_in record_rows name)

-- the page of a fault is that of the row of its name, and another word has none
abbrev pub page_of : (name : List ℕ) → Option (List ℕ)
page_of name = either (module_page name) (texts_page name)

-- what is said of a name: its page, and nothing where there is none
abbrev pub page_text : (name : List ℕ) → List ℕ
page_text name = unwrap_or (page_of name) []
