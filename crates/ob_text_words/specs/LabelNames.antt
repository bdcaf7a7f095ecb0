-- The names of labels in texts.
use Rattle.std.specs.Prelude.{ℕ, List, codes}
use Rattle.wf_table.specs.declared.process.Label.{Label}
use Rattle.wf_table.specs.declared.process.Label.TheVariants.{Next, Post, Flip, Try, Link, Load, Store, Check1, Mine, Seen, Fetch, Check2, Save, Enter, Body, Undo, Keep, Commit, Read, Take, Give}

abbrev pub label_name : Label → List ℕ
label_name Next = codes "NEXT"
label_name Post = codes "POST"
label_name Flip = codes "FLIP"
label_name Try = codes "TRY"
label_name Link = codes "LINK"
label_name Load = codes "LOAD"
label_name Store = codes "STORE"
label_name Check1 = codes "CHECK1"
label_name Mine = codes "MINE"
label_name Seen = codes "SEEN"
label_name Fetch = codes "FETCH"
label_name Check2 = codes "CHECK2"
label_name Save = codes "SAVE"
label_name Enter = codes "ENTER"
label_name Body = codes "BODY"
label_name Undo = codes "UNDO"
label_name Keep = codes "KEEP"
label_name Commit = codes "COMMIT"
label_name Read = codes "READ"
label_name Take = codes "TAKE"
label_name Give = codes "GIVE"
