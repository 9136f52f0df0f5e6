use Rattle.std.proofs.Common.{◌≡◌, ◌-◌, ◌<◌, ◌≤◌, map, length, take, sym, refl, ap, ◌∙◌, subst, arith}
use borrow.Rule.Slice.PartMut.{put_mid}
use Rattle.air.proofs.Notes.{each_removed, pairs_removed, map_removed, length_rotated, each_rotated, pairs_rotated, take_rotated}
use Rattle.air.proofs.queues.Queue.remove.Goals as goal
use Rattle.air.specs.Queues.{Each, Pairs, Apart, Carried, Older, capacity, waiting_at}
use Rattle.std.proofs.lemmas.List.{length-take-le}
use Rattle.std.specs.List.{remove}

pub invariant_of-self : goal.invariant_of-self
invariant_of-self c =
    let q = c.args.self.now in
    let ys = c.rotate_left.new.self in
    let k = c.args.k in
    let turn = c.rotate_left.ensures in
    let fits : q.held ≤ length q.entries = omega (arith, q.bounded.0, q.bounded.1) in
    let front : take (q.held - 1) (put_mid k (q.held - k) q.entries ys) ≡ remove (take q.held q.entries) k =
    take_rotated q.entries ys k q.held c.requires fits turn.len turn.by_index in
    let within : k < length (take q.held q.entries) = omega (arith, length-take-le q.held q.entries fits) in
    record {
      room = q.room;
      bounded = (length_rotated q.entries ys k q.held c.requires fits turn.len turn.by_index ∙ q.bounded.0, omega (arith, q.bounded.1));
      placed = each_rotated q.entries ys k q.held c.requires fits turn.len turn.by_index (λ e. e.place < capacity) q.placed;
      apart = pairs_rotated q.entries ys k q.held c.requires fits turn.len turn.by_index Apart (λ e f ne same. ne (sym same)) q.apart;
      carried = subst (λ es. Each Carried es) (sym front) (each_removed _ k within Carried q.carried);
      older = subst (λ es. Pairs Older es) (sym front) (pairs_removed _ k within Older q.older);
    }

pub returns : goal.returns
returns c =
    let q = c.args.self.now in
    let turn = c.rotate_left.ensures in
    let fits : q.held ≤ length q.entries = omega (arith, q.bounded.0, q.bounded.1) in
    let front = take_rotated q.entries c.rotate_left.new.self c.args.k q.held c.requires fits turn.len turn.by_index in
    record {
      after = ap (map (waiting_at q.store)) front ∙ map_removed (waiting_at q.store) (take q.held q.entries) c.args.k;
      entries = front;
      held = refl;
    }
