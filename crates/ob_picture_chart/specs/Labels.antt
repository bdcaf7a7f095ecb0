-- The words at a call. Names have letters and digits alone, so nothing in them is markup.
use Rattle.std.specs.Prelude.{ℕ, ◌-◌, ◌==◌, ◌||◌, List, [], ◌∷◌, ◌++◌, cond, Option, Some, None, codes, decimal, length, nat_le, nat_lt, slice_get, take}
use Rattle.std.specs.List.{flat_map}
use Rattle.ob_interface.specs.Call.{ObjectCall, Reply, Answers, Trapped}
use Rattle.ob_interface.specs.Export.{Signature}
use Rattle.ob_interface.specs.declared.scalar.Scalar.{Scalar}
use Rattle.ob_text_words.specs.ScalarTexts.{scalar_text}
use Rattle.wf_history.specs.declared.event.CallId.{CallId}

-- p.k
unfoldable pub id_words : CallId → List ℕ
id_words id = decimal id.process ++ codes "." ++ decimal id.number

unfoldable pub value_words : List Scalar → List ℕ
value_words = flat_map (λ s. codes " " ++ scalar_text s)

-- the name of an export; none where there is no such export, as never with a call that fits
abbrev pub name_of : Option Signature → List ℕ
name_of None = codes ""
name_of (Some export) = export.name

unfoldable pub name_words : List Signature → ObjectCall → List ℕ
name_words exports call = name_of (slice_get exports call.export)

-- p.k Name
unfoldable pub head_words : List Signature → CallId → ObjectCall → List ℕ
head_words exports id call = id_words id ++ codes " " ++ name_words exports call

-- p.k Name arguments
unfoldable pub call_words : List Signature → CallId → ObjectCall → List ℕ
call_words exports id call = head_words exports id call ++ value_words call.arguments

unfoldable pub reply_words : Reply → List ℕ
reply_words (Answers values) = codes "done" ++ value_words values
reply_words (Trapped k) = codes "trap " ++ decimal k

-- a reply by its values alone, where it has some
unfoldable pub answer_words : Reply → List ℕ
answer_words (Answers values) = cond (length values == 0) (codes "done") (codes "=" ++ value_words values)
answer_words (Trapped k) = codes "trap " ++ decimal k

-- the first letters of a text, where a letter of ASCII stands behind them
abbrev pub front_before : Option ℕ → ℕ → List ℕ → List ℕ
front_before None count text = text
front_before (Some letter) count text = cond (nat_lt letter 128) (take count text) text

unfoldable pub front : ℕ → List ℕ → List ℕ
front count text = front_before (slice_get text count) count text

-- the three dots, one letter
abbrev pub dots : List ℕ
dots = 226 ∷ 128 ∷ 166 ∷ []

-- a text in the room for so many letters: where it has more, dots stand for its end
unfoldable pub short : ℕ → List ℕ → List ℕ
short room text = cond (nat_le (length text) room) text (front (room - 1) text ++ dots)

-- the room for the name of a call, if the id and the arguments are written out
unfoldable pub name_room : ℕ → List Signature → CallId → ObjectCall → ℕ
name_room room exports id call = length (name_words exports call) - (length (call_words exports id call) - room)

-- a call in the room for so many letters: its name is shortened, and where there is no room for four letters of it, all
unfoldable pub short_call : ℕ → List Signature → CallId → ObjectCall → List ℕ
short_call room exports id call =
    cond (nat_le (length (call_words exports id call)) room || nat_lt (name_room room exports id call) 4) (short room (call_words exports id call))
    (id_words id ++ codes " " ++ short (name_room room exports id call) (name_words exports call) ++ value_words call.arguments)

-- a call that stands there again: where there is no room for all, its arguments are left away
unfoldable pub short_again : ℕ → List Signature → CallId → ObjectCall → List ℕ
short_again room exports id call =
    cond (nat_le (length (call_words exports id call)) room) (call_words exports id call) (short room (head_words exports id call))
