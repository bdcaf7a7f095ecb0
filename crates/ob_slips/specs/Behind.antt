-- What is told behind a fault of a module's text.
use Rattle.std.specs.Prelude.{◌≡◌, ◌<◌, ℕ, List, [], ◌∷◌, ◌++◌, Option, None, Some, codes, length}
use Rattle.ob_check.specs.declared.module_text.TextFault.{TextFault}
use Rattle.ob_explain_sentences.specs.Explanations.{explanation}
use Rattle.ob_explain_sentences.specs.Remarks.{Remark}
use Rattle.ob_mendings.specs.Mendings.{IsMended, mending_text, move_of, origin_in}
use Rattle.ob_mendings.specs.Verdicts.{Finds, IsRight}
use Rattle.ob_slips.specs.Remarks.{IsTextRemark}
use Rattle.ob_mendings.specs.declared.mending.Mending.{Mending}
use Rattle.ob_mendings.specs.declared.origin.Move.{Move}
use Rattle.ob_slips.specs.declared.stage.Stage as Rust

-- ---- texts with slips mended

-- a module's own text, of a file of this name, and the text with mendings, which move its places so, the last one first
pub record Stage : Type 0 where
  pub name : List ℕ
  pub own : List ℕ
  pub text : List ℕ
  pub moves : List Move

abbrev pub stage_of : Rust.Stage → Stage
stage_of s = record { name = s.name.now; own = s.own.now; text = s.text.now; moves = s.moves.now }

-- the module's own text, in which nothing is mended
abbrev pub own_stage : (name text : List ℕ) → Stage
own_stage name text = record { name = name; own = text; text = text; moves = [] }

-- with one mending more, by which the text becomes this one
abbrev pub mended_stage : Mending → (whole : List ℕ) → Stage → Stage
mended_stage m whole s = record { name = s.name; own = s.own; text = whole; moves = move_of m ∷ s.moves }

-- ---- what is told

-- what is said of the text with the mendings, at its place in the module's own text
abbrev pub shown_own : Stage → Option Remark → List ℕ
shown_own s None = []
shown_own s (Some r) =
    explanation s.name s.own (record { place = origin_in s.moves r.place; sentence = r.sentence; hint = r.hint })

-- the fault of the text with the mendings, of which this is the last, of the text before it
pub record IsNext (s : Stage) (before : List ℕ) (last : Mending) (e : TextFault) (told : List ℕ) : Type 0 where
  pub remark : Option Remark
  pub remarked : IsTextRemark s.text e remark
  pub is : told ≡ mending_text before last ++ codes ", the next fault is:\n" ++ shown_own s remark

-- that there may be more faults than those that are told
abbrev pub more_faults : List ℕ
more_faults = codes "there may be more faults behind this one\n"

-- What is told behind a fault of a text: that there may be more; or a mending with which the text is right; or one with which it has another
-- fault, that fault, and what is told behind it. At most nine are mended, so that at most ten faults are told. Which mending is chosen is
-- not said here: each that is told was made, and what is told behind it is true of the text with it.
pub data IsTold : Stage → (told : List ℕ) → Type 0 where
  ends : {s : Stage} → IsTold s more_faults
  rights : {s : Stage} (m : Mending) (whole : List ℕ) → IsMended s.text m whole → IsRight whole
      → IsTold s (mending_text s.text m ++ codes ", the text has no other fault\n")
  goes_on : {s : Stage} (m : Mending) (whole : List ℕ) (f : TextFault) (next behind : List ℕ) → length s.moves < 9
      → IsMended s.text m whole → Finds whole f → IsNext (mended_stage m whole s) s.text m f next → IsTold (mended_stage m whole s) behind
      → IsTold s (next ++ behind)
