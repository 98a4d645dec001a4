-- A fresh machine of a layout, and the layout with nothing in it.
use Rattle.std.specs.Prelude.{false, get_or, replicate, set}
use Rattle.state.specs.declared.record.Layout.{Layout}
use Rattle.state.specs.declared.record.Machine.{Machine}
use Rattle.state.specs.Record.{no_pointer, free_frame}
use Rattle.recent.specs.Registers.{fresh_registers}

-- it is at the start, with register b (pointer 2) at the start domain's stack; the registers of recent capabilities are empty, and the rest is zero
unfoldable pub fresh_of : Layout → Machine
fresh_of l =
    record {
      layout = l;
      registers = record { a = 0; word = l.start.word; segment = l.start.segment; domain = l.start.domain };
      pointers = set (replicate 8 no_pointer) 2 (record { word = 0; segment = get_or l.stacks l.start.domain 0; tag = false });
      frames = replicate 8 free_frame;
      recent = fresh_registers;
      depth = 0;
    }

-- a layout with nothing in it
abbrev pub empty_layout : Layout
empty_layout =
    record {
      lengths = replicate 16 0;
      gates = replicate 16 0;
      start = record { word = 0; segment = 0; domain = 0 };
      gatedomains = replicate 16 0;
      stacks = replicate 8 0;
      rights = replicate 128 0;
      segments = 0;
      domains = 0;
    }
