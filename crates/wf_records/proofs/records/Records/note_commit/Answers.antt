use Rattle.wf_records.proofs.records.Records.note_commit.Goals as goal

pub note_applied-requires : goal.note_applied-requires
note_applied-requires c = rw (← c.self.view_is) at c.requires.in_turn
