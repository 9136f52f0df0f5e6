-- Each event is lawful by what it leaves waiting; the rest is computed.
use Rattle.std.proofs.Common.{ℕ, zero, suc, ◌<◌, refl, arith}
use Rattle.protocol.proofs.laws.a_lost_segment_is_recovered.Goals as goal
use Rattle.protocol.specs.Airs.{done, kept, struck}
use Rattle.protocol.specs.Delivery.{Acknowledged, link_after}
use Rattle.protocol.specs.Recovery.{settings, events}

all_acknowledged : (c : ℕ) → c < 1 → Acknowledged (link_after settings events) c
all_acknowledged zero h = refl
all_acknowledged (suc c) h = absurd (omega (arith, h))

pub returns : goal.returns
returns c = (
  (
    (refl, refl, refl),
    (
      (refl, kept _ done, refl),
      (
        (refl, kept _ (struck _ done), refl),
        (
          (refl, kept _ (kept _ done), refl),
          (
            (((2, kept _ (struck _ done)), struck _ (kept _ done)), refl),
            (
              (((0, kept _ done), struck _ done), refl),
              (
                (refl, refl, refl),
                (
                  (refl, refl, kept _ done),
                  (
                    (refl, ((0, kept _ done), struck _ done)),
                    (
                      (refl, kept _ done, refl),
                      (
                        (((0, kept _ done), struck _ done), refl),
                        (
                          (refl, refl, refl),
                          (
                            (refl, refl, refl),
                            (
                              (refl, refl, kept _ done),
                              ((refl, ((0, kept _ done), struck _ done)), tt),
                            ),
                          ),
                        ),
                      ),
                    ),
                  ),
                ),
              ),
            ),
          ),
        ),
      ),
    ),
  ),
  refl,
  refl,
  (all_acknowledged, refl),
  refl,
)
