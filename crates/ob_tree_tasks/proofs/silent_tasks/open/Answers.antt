use Rattle.ob_layout.specs.Layout.{block_in}
use Rattle.ob_tree_tasks.specs.Tasks.{task_of}
use Rattle.ob_tree_tasks.proofs.Giving.{room_behind}
use Rattle.ob_tree_tasks.proofs.silent_tasks.open.Goals as goal

pub open_value-requires-clause-room : goal.open_value-requires-clause-room
open_value-requires-clause-room c =
    room_behind (block_in c.args.layout.now) c.args.work.now c.pop.new.self (task_of c.in-Some.task) c.in-Some.ensures c.requires.fits

pub open_operators-requires-clause-room : goal.open_operators-requires-clause-room
open_operators-requires-clause-room c =
    room_behind (block_in c.args.layout.now) c.args.work.now c.pop.new.self (task_of c.in-Some.task) c.in-Some.ensures c.requires.fits

pub open_selecting-requires-clause-room : goal.open_selecting-requires-clause-room
open_selecting-requires-clause-room c =
    room_behind (block_in c.args.layout.now) c.args.work.now c.pop.new.self (task_of c.in-Some.task) c.in-Some.ensures c.requires.fits

pub open_handing-requires-clause-room : goal.open_handing-requires-clause-room
open_handing-requires-clause-room c =
    room_behind (block_in c.args.layout.now) c.args.work.now c.pop.new.self (task_of c.in-Some.task) c.in-Some.ensures c.requires.fits

pub open_while-requires-clause-room : goal.open_while-requires-clause-room
open_while-requires-clause-room c =
    room_behind (block_in c.args.layout.now) c.args.work.now c.pop.new.self (task_of c.in-Some.task) c.in-Some.ensures c.requires.fits

pub open_repeat-requires-clause-room : goal.open_repeat-requires-clause-room
open_repeat-requires-clause-room c =
    room_behind (block_in c.args.layout.now) c.args.work.now c.pop.new.self (task_of c.in-Some.task) c.in-Some.ensures c.requires.fits

pub open_all-requires-clause-room : goal.open_all-requires-clause-room
open_all-requires-clause-room c =
    room_behind (block_in c.args.layout.now) c.args.work.now c.pop.new.self (task_of c.in-Some.task) c.in-Some.ensures c.requires.fits

pub open_choosing-requires-clause-room : goal.open_choosing-requires-clause-room
open_choosing-requires-clause-room c =
    room_behind (block_in c.args.layout.now) c.args.work.now c.pop.new.self (task_of c.in-Some.task) c.in-Some.ensures c.requires.fits
