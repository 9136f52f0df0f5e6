use Rattle.pdcp.proofs.stores.Store.new.Goals as goal
use Rattle.pdcp.specs.Stores.{held_in}

pub returns : goal.returns
unfolding held_in
returns c = simp c.empty.ensures
