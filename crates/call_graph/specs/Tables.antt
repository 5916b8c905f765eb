-- What the placing of pieces keeps.
use Rattle.call_graph.specs.declared.turns.Placing.{Placing}
use Rattle.call_graph.specs.Waiting.{Table}

abbrev pub table : Placing → Table
table p =
    record {
      members = p.members.items;
      callees = p.callees.items;
      waiting = p.waiting.items;
      placed = p.placed.items;
      ready = p.ready;
      woken = p.woken;
      list = p.list.items;
    }
