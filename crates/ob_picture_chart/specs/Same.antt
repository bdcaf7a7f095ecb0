-- Calls that are the same.
use Rattle.std.specs.Prelude.{◌==◌, ◌&&◌, Bool, List}
use Rattle.std.specs.List.{list_any}
use Rattle.wf_history.specs.declared.event.CallId.{CallId}

abbrev pub is_same : CallId → CallId → Bool
is_same a b = (a.process == b.process) && (a.number == b.number)

abbrev pub is_among : List CallId → CallId → Bool
is_among ids id = list_any (λ other. is_same other id) ids
