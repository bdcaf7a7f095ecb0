use Rattle.wf_records.proofs.records.Records.note_begin.Goals as goal

pub push_begin-requires : goal.push_begin-requires
push_begin-requires c = rw (← c.self.view_is) at c.requires
