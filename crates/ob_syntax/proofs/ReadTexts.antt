-- What reading a text answers, from what the scanner and the parser answer.
use Rattle.std.proofs.Common.{◌≡◌, ◌≤◌, ℕ, suc, List, ◌++◌, drop, take, length, inl, inr, Result, sym, subst, arith}
use Rattle.std.specs.List.{Contains}
use Rattle.std.specs.Result.{IsErrAnd, IfOk, IfErr}
use Rattle.std.proofs.lemmas.List.{take-append-drop}
use Rattle.ob_scan.specs.Limits.{longest_text}
use Rattle.ob_scan.specs.declared.token.Token.{Token}
use Rattle.ob_scan.specs.declared.fault.ScanFault.{ScanFault}
use Rattle.ob_scan.specs.declared.fault.ScanFault.TheVariants as ScanFaults
use Rattle.ob_scan.specs.ScanFaults.{IsScanFault}
use Rattle.ob_scan.specs.Tokens.{TokenizedText, HasTokens}
use Rattle.ob_scan.specs.Lexemes.{lexemes}
use Rattle.ob_parser.specs.declared.parser.ParseFault.{ParseFault}
use Rattle.ob_parser.specs.declared.parser.ParseFault.TheVariants as ParseFaults
use Rattle.ob_syntax.specs.declared.tree_reader.ReadFault.TheVariants.{Scan, Parse}
use Rattle.ob_grammar.specs.Tree.{Module}
use Rattle.ob_grammar.specs.Grammar.{Lexemes, Derives}
use Rattle.ob_grammar.specs.EndNamesAndNesting.{Breach, KeepsConditions, breaches}
use Rattle.ob_parser.specs.ParseFaults.{lexemes_of, IsParseFault}
use Rattle.ob_syntax.specs.PrintedAgain.{LeadsTo}
use Rattle.ob_syntax.specs.ReadFaults.{IsWant, of_scan, of_parse}
use Rattle.ob_grammar.proofs.Exits.{exits}

pub raised_both : {X E : Type 0} (P : X → Type 0) (Q : E → Type 0) (r : Result X E) (e : E) → IsErrAnd r (λ d. d ≡ e) → Q e → IfOk r P × IfErr r Q
raised_both P Q r e h bad = exits (λ v. IfOk v P × IfErr v Q) r e h (tt, bad)

-- of a text that has tokens and is not too long, the scanner can only want memory
pub scan_wants : {text : List ℕ} {tokens : List Token} (fault : ScanFault) → IsScanFault text fault → HasTokens text tokens →
    length text ≤ longest_text → IsWant (Scan fault)
scan_wants {tokens = tokens} (ScanFaults.StrayByte at) f h k = absurd (f.none tt tokens h)
scan_wants {tokens = tokens} (ScanFaults.NumberTooLarge at) f h k = absurd (f.none tt tokens h)
scan_wants {tokens = tokens} (ScanFaults.OpenComment at) f h k = absurd (f.none tt tokens h)
scan_wants {tokens = tokens} (ScanFaults.NameTooLong at) f h k = absurd (f.none tt tokens h)
scan_wants ScanFaults.TooLong f h k = let long = f.stands in absurd (omega arith)
scan_wants ScanFaults.NoMemory f h k = of_scan

-- these tokens from a place on
rest_derives : (tokens : Lexemes) (n : ℕ) {m : Module} → Derives tokens m → Derives (take n tokens ++ drop n tokens) m
rest_derives tokens n {m = m} d = let P : Lexemes → Type 0 = λ l. Derives l m in subst P (sym (take-append-drop n tokens)) d

nothing_broken : (m : Module) (breach : Breach) → KeepsConditions m → Contains (breaches m) breach → ⊥
nothing_broken m breach keeps h =
    let P : List Breach → Type 0 = λ bs. Contains bs breach in
    let none = subst P keeps h in
    let below = none.1 in
    omega arith

-- of tokens that derive a module that keeps the conditions, the parser can only want memory
pub parse_wants : (source : TokenizedText) (m : Module) (fault : ParseFault) → IsParseFault source fault → Derives (lexemes_of source) m →
    KeepsConditions m → IsWant (Parse fault)
parse_wants source m (ParseFaults.Unexpected place) (inl r) d keeps =
    absurd (r.none (drop (suc r.index) (lexemes_of source), m, rest_derives (lexemes_of source) (suc r.index) d))
parse_wants source m (ParseFaults.Unexpected place) (inr r) d keeps = absurd (r.none m d)
parse_wants source m (ParseFaults.TooDeep place) r d keeps =
    absurd (nothing_broken m _ keeps (r.broken (drop (suc r.index) (lexemes_of source)) m (rest_derives (lexemes_of source) (suc r.index) d)))
parse_wants source m (ParseFaults.NameDiffers place) r d keeps =
    absurd (nothing_broken m _ keeps (r.broken (drop (suc r.index) (lexemes_of source)) m (rest_derives (lexemes_of source) (suc r.index) d)))
parse_wants source m ParseFaults.NoMemory r d keeps = of_parse

-- the tree that a text leads to is derived by its tokens
pub leads_by : {text : List ℕ} {m : Module} (source : TokenizedText) → source.text ≡ text →
    ((others : List Token) → HasTokens text others → others ≡ source.tokens) → (l : LeadsTo text m) → Derives (lexemes_of source) l.tree
leads_by {text = text} source e alone l =
    let P : List ℕ → Type 0 = λ t. Derives (lexemes t source.tokens) l.tree in
    let Q : List Token → Type 0 = λ ts. Derives (lexemes text ts) l.tree in
    subst P (sym e) (subst Q (alone l.read.tokens l.read.scanned) l.read.derives)

-- a fault of the parser is one of the text's
pub of_text : {text : List ℕ} (source : TokenizedText) (fault : ParseFault) → source.text ≡ text → IsParseFault source fault →
    IsParseFault (record { text = text; tokens = source.tokens }) fault
of_text source fault e f =
    let P : List ℕ → Type 0 = λ t. IsParseFault (record { text = t; tokens = source.tokens }) fault in
    subst P e f
