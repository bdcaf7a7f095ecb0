-- The table of steps, a row for each label. A step of process p changes the cell in one of six ways, p's own record,
-- and the records of what was seen; nothing else. It never looks at another process's record.
use Rattle.std.specs.Prelude.{ℕ, ◌+◌, ◌-◌, ◌*◌, ℤ, pos, List, [], length, take, slice_index_or, slice_set, if◌then◌else◌, nat_eq, nat_lt}
use Rattle.std.proofs.Common.{int_eq}
use Rattle.ll_cell.specs.Cell.{Cell, own_of, is_linked, block_of, announcement_of, word_at, link, exchange, write_own, refill_own, announce_word}
use Rattle.ob_interface.specs.Call.{ObjectCall}
use Rattle.wf_table.specs.declared.process.Label.{Label}
use Rattle.wf_table.specs.declared.process.Label.TheVariants.{Next, Post, Flip, Try, Link, Load, Store, Check1, Mine, Seen, Fetch, Check2, Save, Enter, Body, Undo, Keep, Commit, Read, Take, Give}
use Rattle.wf_table.specs.declared.process.Registers.{Registers}
use Rattle.wf_table.specs.declared.process.Sizes.{Sizes}
use Rattle.wf_table.specs.declared.engine_turn.EngineTurn.{EngineTurn}
use Rattle.wf_table.specs.declared.engine_turn.EngineTurn.TheVariants.{On, Returned, Trapped, Stuck}
use Rattle.wf_table.specs.Meaning.{Meaning, Turned}

pub record Process (Run : Type 0) : Type 0 where
  pub label : Label
  pub calls : List ObjectCall  -- submitted
  pub begun : ℕ  -- how many of them have begun
  pub registers : Registers
  pub list : List ℤ  -- of an announced call
  pub replies : List ℤ  -- status and results of the own call
  pub save : List ℤ  -- the variables before a body
  pub run : Run

-- what a step does to the cell
pub data Change : Type 0 where
  Nothing : Change
  Own : (i : ℕ) (w : ℤ) → Change  -- a word of the own block
  Refill : (ws : List ℤ) → Change  -- the first words of the own block
  Announce : (i : ℕ) (w : ℤ) → Change  -- a word of the own announcement
  Links : Change
  Exchanges : Change

abbrev pub cell_after : Cell → ℕ → Change → Cell
cell_after c p Nothing = c
cell_after c p (Own i w) = write_own c p i w
cell_after c p (Refill ws) = refill_own c p ws
cell_after c p (Announce i w) = announce_word c p i w
cell_after c p Links = link c p
cell_after c p Exchanges = exchange c p

pub record Move (Run : Type 0) : Type 0 where
  pub change : Change
  pub process : Process Run

abbrev pub part : Sizes → ℕ → ℕ
part z q = z.variables + q * (z.replies + 2)

abbrev pub block_words : Sizes → ℕ
block_words z = z.variables + z.processes * (z.replies + 2)

abbrev pub toggle_place : Sizes → ℕ → ℕ
toggle_place z q = part z q + (z.replies + 1)

abbrev pub toggle_in : Sizes → List ℤ → ℕ → ℤ
toggle_in z block q = word_at block (toggle_place z q)

abbrev pub announced_toggle : Sizes → Cell → ℕ → ℤ
announced_toggle z c q = word_at (announcement_of c q) z.arguments

abbrev pub own_block : Cell → ℕ → List ℤ
own_block c p = block_of c (own_of c p)

abbrev pub inverted : ℤ → ℤ
inverted t = if int_eq t (pos 0) then pos 1 else pos 0

-- a loop of no words takes no step
abbrev pub or_past : ℕ → Label → Label → Label
or_past words l past = if nat_eq words 0 then past else l

module _ {Run : Type 0} where
  abbrev pub to : Label → Process Run → Process Run
  to l q = record q { label = l }

  -- the register i set, and the label
  abbrev pub at : ℕ → Label → Process Run → Process Run
  at i l q = record q { label = l; registers = record q.registers { i = i } }

  -- the next index; behind the last one the next row
  abbrev pub next_or : ℕ → Label → Process Run → Process Run
  next_or end l q = at (q.registers.i + 1) (if nat_eq (q.registers.i + 1) end then l else q.label) q

  abbrev pub moved : Change → Process Run → Move Run
  moved change q = record { change = change; process = q }

  -- the call of this place in the script
  abbrev pub call_at : Process Run → ℕ → ObjectCall
  call_at q k = slice_index_or q.calls k (record { export = 0; arguments = [] })

  abbrev pub open_call : Process Run → ObjectCall
  open_call q = call_at q (q.begun - 1)

  abbrev pub next : Meaning Run → Process Run → Move Run
  next m q =
      moved Nothing
      (if nat_lt q.begun (length q.calls)
      then record q { label = Post; begun = q.begun + 1; registers = record q.registers { i = 0 }; list = m.lay (call_at q q.begun) }
      else q)

  abbrev pub post : Sizes → Process Run → Move Run
  post z q = moved (Announce q.registers.i (word_at q.list q.registers.i)) (next_or z.arguments Flip q)

  abbrev pub flip : Sizes → Cell → ℕ → Process Run → Move Run
  flip z c p q = moved (Announce z.arguments (inverted (announced_toggle z c p))) (record q { label = Try; registers = record q.registers { round = 0 } })

  abbrev pub try : Process Run → Move Run
  try q = moved Nothing (if nat_eq q.registers.round 2 then to Read q else record q { label = Link; registers = record q.registers { round = q.registers.round + 1 } })

  abbrev pub links : Cell → Process Run → Move Run
  links c q = moved Links (record q { label = Load; registers = record q.registers { r = c.root; i = 0 } })

  abbrev pub load : Cell → Process Run → Move Run
  load c q = moved Nothing (record q { label = Store; registers = record q.registers { acc = word_at (block_of c q.registers.r) q.registers.i } })

  abbrev pub store : Sizes → Process Run → Move Run
  store z q =
      moved (Own q.registers.i q.registers.acc)
      (at (q.registers.i + 1) (if nat_eq (q.registers.i + 1) (block_words z) then Check1 else Load) q)

  abbrev pub check : Label → Cell → ℕ → Process Run → Move Run
  check l c p q = moved Nothing (if is_linked c p then at 0 l q else to Try q)

  abbrev pub mine : Sizes → Cell → ℕ → Process Run → Move Run
  mine z c p q =
      moved Nothing
      (if int_eq (toggle_in z (own_block c p) p) (announced_toggle z c p)
      then to Read q
      else record q { label = Seen; registers = record q.registers { j = 0 } })

  abbrev pub seen : Sizes → Cell → ℕ → Process Run → Move Run
  seen z c p q =
      moved Nothing
      (if nat_eq q.registers.j z.processes
      then to Commit q
      else (if int_eq (announced_toggle z c q.registers.j) (toggle_in z (own_block c p) q.registers.j)
      then record q { registers = record q.registers { j = q.registers.j + 1 } }
      else at 0 Fetch q))

  abbrev pub fetch : Sizes → Cell → Process Run → Move Run
  fetch z c q =
      moved Nothing (next_or z.arguments Check2 (record q { list = slice_set q.list q.registers.i (word_at (announcement_of c q.registers.j) q.registers.i) }))

  abbrev pub save : Sizes → Cell → ℕ → Process Run → Move Run
  save z c p q = moved Nothing (next_or z.variables Enter (record q { save = slice_set q.save q.registers.i (word_at (own_block c p) q.registers.i) }))

  abbrev pub enter : Meaning Run → Process Run → Move Run
  enter m q = moved Nothing (record q { label = Body; run = m.start q.list })

  abbrev pub after_body : Sizes → EngineTurn → Process Run → Process Run
  after_body z On q = q
  after_body z Returned q = record q { label = Keep; registers = record q.registers { i = 0; status = pos 0 } }
  after_body z (Trapped k) q = record q { label = or_past z.variables Undo Keep; registers = record q.registers { i = 0; status = pos k } }
  after_body z Stuck q = q

  abbrev pub body_turn : Meaning Run → Sizes → Cell → ℕ → Process Run → Turned Run
  body_turn m z c p q = m.step q.run (take z.variables (own_block c p))

  abbrev pub body_step : Meaning Run → Sizes → Cell → ℕ → Process Run → Move Run
  body_step m z c p q = moved (Refill (body_turn m z c p q).block) (after_body z (body_turn m z c p q).turn (record q { run = (body_turn m z c p q).run }))

  abbrev pub undo : Sizes → Process Run → Move Run
  undo z q =
      moved (Own q.registers.i (word_at q.save q.registers.i))
      (if nat_eq (q.registers.i + 1) z.variables then at 0 Keep q else at (q.registers.i + 1) Undo q)

  -- the words that KEEP writes: status, results, toggle
  abbrev pub kept_word : Meaning Run → Sizes → Cell → ℕ → Process Run → ℤ
  kept_word m z c p q =
      if nat_eq q.registers.i 0
      then q.registers.status
      else (if nat_eq q.registers.i (z.replies + 1)
      then inverted (toggle_in z (own_block c p) q.registers.j)
      else (if int_eq q.registers.status (pos 0) then m.result q.run (q.registers.i - 1) else pos 0))

  abbrev pub keep : Meaning Run → Sizes → Cell → ℕ → Process Run → Move Run
  keep m z c p q =
      moved (Own (part z q.registers.j + q.registers.i) (kept_word m z c p q))
      (if nat_eq (q.registers.i + 1) (z.replies + 2)
      then record q { label = Seen; registers = record q.registers { i = 0; j = q.registers.j + 1 } }
      else at (q.registers.i + 1) Keep q)

  -- where p is linked, its own block becomes the root and the old root its own, and no process is linked any more (`exchange` of
  -- Cell), so of all that copied one root just one replaces it; else nothing changes, and p tries once more
  abbrev pub commit : Cell → ℕ → Process Run → Move Run
  commit c p q = moved Exchanges (if is_linked c p then to Read q else to Try q)

  abbrev pub read : Cell → Process Run → Move Run
  read c q = moved Nothing (record q { label = Take; registers = record q.registers { r = c.root; i = 0 } })

  abbrev pub take_reply : Sizes → Cell → ℕ → Process Run → Move Run
  take_reply z c p q =
      moved Nothing (next_or (z.replies + 1) Give (record q { replies = slice_set q.replies q.registers.i (word_at (block_of c q.registers.r) (part z p + q.registers.i)) }))

  abbrev pub give : Process Run → Move Run
  give q = moved Nothing (to Next q)

  -- the row of a label
  abbrev pub row : Label → Meaning Run → Sizes → Cell → ℕ → Process Run → Move Run
  row Next m z c p q = next m q
  row Post m z c p q = post z q
  row Flip m z c p q = flip z c p q
  row Try m z c p q = try q
  row Link m z c p q = links c q
  row Load m z c p q = load c q
  row Store m z c p q = store z q
  row Check1 m z c p q = check Mine c p q
  row Mine m z c p q = mine z c p q
  row Seen m z c p q = seen z c p q
  row Fetch m z c p q = fetch z c q
  row Check2 m z c p q = check (or_past z.variables Save Enter) c p q
  row Save m z c p q = save z c p q
  row Enter m z c p q = enter m q
  row Body m z c p q = body_step m z c p q
  row Undo m z c p q = undo z q
  row Keep m z c p q = keep m z c p q
  row Commit m z c p q = commit c p q
  row Read m z c p q = read c q
  row Take m z c p q = take_reply z c p q
  row Give m z c p q = give q
