-- Orders whose calls are made one at a time: the call in each place, their beginnings, and the words of a last call.
use Rattle.std.proofs.Common.{◌≡◌, ℕ, zero, suc, ◌+◌, ◌<◌, Bool, true, false, List, [], ◌∷◌, ◌++◌, length, get_or, refl, ap, ◌∙◌, arith, cond, subst, eqb}
use Rattle.std.specs.Prelude.{ℤ}
use Rattle.std.specs.List.{range_with_len}
use Rattle.std.proofs.lemmas.Bool.{eq-eqb, false≢true}
use Rattle.wf_history.specs.declared.event.CallId.{CallId}
use Rattle.wf_history.specs.Legal.{OneAtATime, none, more}
use Rattle.wf_table.specs.Order.{IsAt, own_numbers}
use Rattle.wf_table.specs.Contents.{last_words}

-- with one more in front
same_behind : {X : Type 0} (v : X) (xs ys : List X) (n : ℕ) → ((i : ℕ) (d : X) → i < n → get_or xs i d ≡ get_or ys i d) → (i : ℕ) (d : X) → i < suc n → get_or (v ∷ xs) i d ≡ get_or (v ∷ ys) i d
same_behind v xs ys n h zero d lt = refl
same_behind v xs ys n h (suc i) d lt = h i d (omega (arith, lt))

module _ {State Call Answer : Type 0} (Made : CallId → Call → Type 0) (Effect : Call → State → State → Answer → Type 0) where
  -- what was made in a place
  pub record MadeAt (id : CallId) (answer : Answer) : Type 0 where
    pub call : Call
    pub before : State
    pub after : State
    pub made : Made id call
    pub effect : Effect call before after answer

  pub made_at : (a b : State) (ids : List CallId) (answers : List Answer) (i : ℕ) (id : CallId) (d : Answer) → OneAtATime Made Effect a ids answers b → i < length ids → get_or ids i id ≡ id → MadeAt id (get_or answers i d)
  made_at a b [] answers i id d h lt e = absurd (omega (arith, lt))
  made_at a b (x ∷ ids) answers zero id d (more {between = s} {call = call} {answer = v} made does rest) lt e = record { call = call; before = a; after = s; made = subst (λ (y : CallId). Made y call) e made; effect = does }
  made_at a b (x ∷ ids) answers (suc i) id d (more {between = s} {answers = vs} made does rest) lt e = made_at s b ids vs i id d rest (omega (arith, lt)) e

  -- the beginning of an order
  pub record Front (a : State) (xs : List CallId) (answers : List Answer) : Type 0 where
    pub front : List Answer
    pub middle : State
    pub made : OneAtATime Made Effect a xs front middle
    pub same : (i : ℕ) (d : Answer) → i < length xs → get_or answers i d ≡ get_or front i d

  pub front_of : (a b : State) (xs ys : List CallId) (answers : List Answer) → OneAtATime Made Effect a (xs ++ ys) answers b → Front a xs answers
  front_of a b [] ys answers h = record { front = []; middle = a; made = none; same = λ i d lt. absurd (omega (arith, lt)) }
  front_of a b (x ∷ xs) ys answers (more {between = s} {call = call} {answer = v} {answers = vs} made does rest) =
      let f = front_of s b xs ys vs rest in
      record { front = v ∷ f.front; middle = f.middle; made = more made does f.made; same = same_behind v vs f.front (length xs) f.same }

-- by whether the first call is the process's
skips : (b : Bool) (first w : List ℤ) (n p : ℕ) (ids : List CallId) (words : List (List ℤ)) → cond b (n ∷ own_numbers p ids) (own_numbers p ids) ≡ [] → (own_numbers p ids ≡ [] → (v : List ℤ) → last_words v p ids words ≡ v) → last_words (cond b w first) p ids words ≡ first
skips true first w n p ids words e rest = absurd (cc)
skips false first w n p ids words e rest = rest e first

-- a process that has no call in the list
no_words : (first : List ℤ) (p : ℕ) (ids : List CallId) (words : List (List ℤ)) → own_numbers p ids ≡ [] → last_words first p ids words ≡ first
no_words first p [] words e = refl
no_words first p (x ∷ ids) [] e = refl
no_words first p (x ∷ ids) (w ∷ words) e = skips (eqb x.process p) first w x.number p ids words e (λ f v. no_words v p ids words f)

-- where the numbers of a process are in turn, the call with the last of them is its last one
last_here : (b : Bool) (first w : List ℤ) (a n k p : ℕ) (ids : List CallId) (words : List (List ℤ)) → b ≡ true → cond b (n ∷ own_numbers p ids) (own_numbers p ids) ≡ range_with_len a k → n + 1 ≡ a + k → last_words (cond b w first) p ids words ≡ w
last_here false first w a n k p ids words own turns last = absurd (false≢true own)
last_here true first w a n zero p ids words own turns last = absurd (cc)
last_here true first w a n (suc k) p ids words own turns last =
    let is : n ≡ a = cc in
    let count : k ≡ 0 = omega (arith, last, is) in
    let rest : own_numbers p ids ≡ range_with_len (a + 1) k = cc in
    no_words w p ids words (rest ∙ ap (range_with_len (a + 1)) count)

later_turns : (b : Bool) (a n k p : ℕ) (ids : List CallId) → cond b (n ∷ own_numbers p ids) (own_numbers p ids) ≡ range_with_len a k → (a' : ℕ) × (k' : ℕ) × (own_numbers p ids ≡ range_with_len a' k') × (a' + k' ≡ a + k)
later_turns false a n k p ids turns = (a, k, turns, refl)
later_turns true a n zero p ids turns = absurd (cc)
later_turns true a n (suc k) p ids turns = (a + 1, k, cc, omega arith)

pub last_is : (first : List ℤ) (a k p n : ℕ) (ids : List CallId) (words : List (List ℤ)) (i : ℕ) → length words ≡ length ids → own_numbers p ids ≡ range_with_len a k → n + 1 ≡ a + k → IsAt ids i (record { process = p; number = n }) → last_words first p ids words ≡ get_or words i []
last_is first a k p n [] words i long turns last at = absurd (omega (arith, at.0))
last_is first a k p n (x ∷ ids) [] i long turns last at = absurd (omega (arith, long))
last_is first a k p n (x ∷ ids) (w ∷ words) zero long turns last at =
    let number : x.number ≡ n = ap (λ (id : CallId). id.number) at.1 in
    last_here (eqb x.process p) first w a x.number k p ids words (eq-eqb x.process p (ap (λ (id : CallId). id.process) at.1)) turns (omega (arith, number, last))
last_is first a k p n (x ∷ ids) (w ∷ words) (suc i) long turns last at =
    let rest = later_turns (eqb x.process p) a x.number k p ids turns in
    last_is (cond (eqb x.process p) w first) rest.0 rest.1 p n ids words i (omega (arith, long)) rest.2 (omega (arith, rest.3, last)) (omega (arith, at.0), at.1)
