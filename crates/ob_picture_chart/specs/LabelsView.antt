-- What the program's values of this crate stand for, without pointers.
use Rattle.std.specs.Prelude.{option_map}
use Rattle.ob_picture_chart.specs.Bars as Bars
use Rattle.ob_picture_chart.specs.declared.bar.Bar.{Bar}
use Rattle.wf_history.specs.View.{seen_call, seen_reply}

abbrev pub bar_in : Bar → Bars.Bar
bar_in b =
    record {
      id = b.id;
      call = seen_call b.call;
      begin = b.begin;
      end = b.end;
      reply = option_map seen_reply b.reply;
      next = b.next;
    }
