-- Records of histories with a legal order that was found: they are writable, and their text is verified.
use Rattle.std.specs.Prelude.{ℕ, ◌≤◌, List, Option, Some, None}
use Rattle.ob_meaning.specs.ByNameObject.{most_turns}
use Rattle.ob_object_search.specs.SearchRecords.{IsRecordFound}
use Rattle.ob_object_calls.specs.Verified.{IsVerified}
use Rattle.ob_laws.specs.Writable.{IsWritable}

-- where a budget is asked for, it is one that a call may have: a record with another one is none, whatever it is a record of
abbrev pub MayBeAsked : Option ℕ → Type 0
MayBeAsked None = Unit {0}
MayBeAsked (Some turns) = turns ≤ most_turns

-- the record that was found fits the module, of each history and with each such budget
abbrev pub FoundIsWritable : Type 0
FoundIsWritable =
    (module_text history_text output : List ℕ) (asked : Option ℕ) → MayBeAsked asked →
    (found : IsRecordFound module_text history_text asked output) → IsWritable found.program found.r

-- so what is written of it is verified: it is a record, and its order is a legal order of what it tells, from the state with which the
-- history's object begins
abbrev pub FoundIsVerified : Type 0
FoundIsVerified =
    (module_text history_text output : List ℕ) (asked : Option ℕ) → MayBeAsked asked →
    IsRecordFound module_text history_text asked output → IsVerified module_text output
