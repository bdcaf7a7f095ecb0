-- Calls from their begin to their end, by what is seen of a run.
use Rattle.std.specs.Prelude.{ℕ, ◌==◌, List, [], ◌∷◌, cond, Option, Some, None, unwrap_or}
use Rattle.ob_interface.specs.Call.{ObjectCall, Reply}
use Rattle.ob_picture_chart.specs.Charts.{Happening, Begun, Taken, Ended, Sight}
use Rattle.ob_picture_chart.specs.Same.{is_same}
use Rattle.wf_history.specs.declared.event.CallId.{CallId}

-- a call: its begin and its end, by their columns, where a call that doesn't end goes on to the end of the picture; its reply; and the
-- column in which its process begins its next call, or the end of the picture
pub record Bar : Type 0 where
  pub id : CallId
  pub call : ObjectCall
  pub begin : ℕ
  pub end : ℕ
  pub reply : Option Reply
  pub next : ℕ

-- where a call ends: the column, and the reply
abbrev pub end_here : CallId → Sight → Happening → Option (ℕ × Reply) → Option (ℕ × Reply)
end_here id s (Begun call) behind = behind
end_here id s (Taken number maker) behind = behind
end_here id s (Ended reply) behind = cond (is_same s.id id) (Some (s.column, reply)) behind

abbrev pub end_of : CallId → List Sight → Option (ℕ × Reply)
end_of id [] = None
end_of id (s ∷ behind) = end_here id s s.happening (end_of id behind)

-- where a process begins a call
abbrev pub begin_here : (process : ℕ) → Sight → Happening → Option ℕ → Option ℕ
begin_here process s (Begun call) behind = cond (s.id.process == process) (Some s.column) behind
begin_here process s (Taken number maker) behind = behind
begin_here process s (Ended reply) behind = behind

abbrev pub begin_of : (process : ℕ) → List Sight → Option ℕ
begin_of process [] = None
begin_of process (s ∷ behind) = begin_here process s s.happening (begin_of process behind)

abbrev pub end_column : (columns : ℕ) → Option (ℕ × Reply) → ℕ
end_column columns None = columns
end_column columns (Some end) = end.0

abbrev pub end_reply : Option (ℕ × Reply) → Option Reply
end_reply None = None
end_reply (Some end) = Some end.1

-- the call that begins, by what is seen behind that
abbrev pub bar_of : (columns : ℕ) → Sight → ObjectCall → List Sight → Bar
bar_of columns s call behind =
    record {
      id = s.id;
      call = call;
      begin = s.column;
      end = end_column columns (end_of s.id behind);
      reply = end_reply (end_of s.id behind);
      next = unwrap_or (begin_of s.id.process behind) columns;
    }
