use Rattle.std.proofs.Common.{ap, sym, ◌∙◌}
use Rattle.packed_state.specs.Packing.{Places}
use Rattle.lazy_search.proofs.UnpackedStates.{words_long, unpacked}
use Rattle.lazy_search.proofs.states.States.state_into.Goals as goal

pub unpack-requires-clause-words : goal.unpack-requires-clause-words
unpack-requires-clause-words c =
    let k = c.requires.kept in
    words_long c.args.self.now c.args.task.now c.args.id c.state.result.now k.state c.requires.ready c.state.ensures k.stored ∙ ap (λ (l : Places). l.words) (sym c.layout-layout.ensures)

pub returns : goal.returns
returns c state is stored =
    unpacked c.args.self.now c.args.task.now c.args.id c.state.result.now c.unpack.new.out state c.layout-layout.result.now c.requires.ready c.layout-layout.ensures c.state.ensures is stored c.unpack.ensures
