-- Names of calls that are taken off a line.
use Rattle.std.proofs.Common.{◌≡◌, ℕ, ◌-◌, Bool, ◌&&◌, true, false, List, [], ◌∷◌, ◌++◌, refl, subst, arith, append_assoc, append-nil}
use Rattle.std.specs.Char.{is_ascii_digit, digit_value}
use Rattle.std.proofs.lemmas.Bool.{false≢true}
use Rattle.std.proofs.lemmas.Bool.Decides.{nat_tests}
use Rattle.ob_text_words.specs.Words.{Word, words}
use Rattle.ob_text_values_reading.specs.CallNames.{AreIds, IsId, TakesId, TakesNoId, more, none}
use Rattle.wf_history.specs.declared.event.CallId.{CallId}

pub both : (a b : Bool) → (a && b) ≡ true → (a ≡ true) × (b ≡ true)
both true b h = (refl, h)
both false b h = absurd (false≢true h)

pub digit_is : (d : ℕ) → is_ascii_digit d ≡ true → digit_value d ≡ d - 48
digit_is d h = grind (arith, nat_tests)

-- the calls that the words so far name
pub record NamedTo (processes : ℕ) (line left : List Word) (ids : List CallId) : Type 0 where
  pub whole : (others : List CallId) → AreIds processes left others → AreIds processes line (ids ++ others)
  pub behind : (all : List CallId) → AreIds processes line all → (others : List CallId) × AreIds processes left others

pub none_named : (processes : ℕ) (line : List Word) → NamedTo processes line line []
none_named processes line = record { whole = λ others h. h; behind = λ all h. (all, h) }

others_of : {processes : ℕ} {word : Word} {ws : List Word} {all : List CallId} → AreIds processes (word ∷ ws) all →
    (i : CallId) × IsId processes word i × (others : List CallId) × AreIds processes ws others
others_of (more {id = i} {ids = ids} names h) = (i, names, ids, h)

pub one_named : (processes : ℕ) (line left rest : List ℕ) (ids : List CallId) (i : CallId) → NamedTo processes (words line) (words left) ids →
    TakesId processes left i rest → NamedTo processes (words line) (words rest) (ids ++ i ∷ [])
one_named processes line left rest ids i so_far takes =
    record {
      whole = λ others h. rw append_assoc (so_far.whole (i ∷ others) (rw takes.parts (more takes.names h)));
      behind = λ all h.
          let b = so_far.behind all h in
          let o = others_of (rw takes.parts at b.1) in
          (o.2, o.3);
    }

pub all_named : (processes : ℕ) (line left : List ℕ) (ids : List CallId) → NamedTo processes (words line) (words left) ids → words left ≡ [] → AreIds processes (words line) ids
all_named processes line left ids so_far end =
    subst (λ (is : List CallId). AreIds processes (words line) is) (append-nil ids) (so_far.whole [] (rw end none))

pub not_named : (processes : ℕ) (line left : List ℕ) (ids : List CallId) (word : Word) (rest : List Word) → NamedTo processes (words line) (words left) ids →
    words left ≡ word ∷ rest → TakesNoId processes left → (all : List CallId) → AreIds processes (words line) all → ⊥
not_named processes line left ids word rest so_far parts misfit all h =
    let b = so_far.behind all h in
    let o = others_of (rw parts at b.1) in
    misfit word rest o.0 parts o.1
