use Rattle.std.proofs.Common.{◌≡◌, ap, arith}
use Rattle.solids.specs.declared.catalogue.CatalogueSolid.{CatalogueSolid}
use Rattle.solids.specs.declared.catalogue.CatalogueSolid.TheVariants.{Ball, Block, Plane, Drum}
use Rattle.solids.specs.declared.catalogue.Ball as ball
use Rattle.solids.specs.declared.catalogue.Block as block
use Rattle.solids.specs.declared.catalogue.Plane as plane
use Rattle.records.specs.Catalogue.{ball_fields, block_fields, plane_fields, raw_of}
use Rattle.records.specs.declared.raw.RawSolid.{RawSolid}
use Rattle.records.proofs.catalogue.read_fields.Goals as goal

-- a kind's number rules out the solids of the other kinds
no_ball : (raw : RawSolid) → raw.kind ≡ 1 → ((s : ball.Ball) → ball_fields s ≡ raw → ⊥) → (s : CatalogueSolid) → raw_of s ≡ raw → ⊥
no_ball raw k none (Ball s) e = none s e
no_ball raw k none (Block s) e = omega (arith, ap (λ (r : RawSolid). r.kind) e)
no_ball raw k none (Plane s) e = omega (arith, ap (λ (r : RawSolid). r.kind) e)
no_ball raw k none (Drum s) e = omega (arith, ap (λ (r : RawSolid). r.kind) e)

no_block : (raw : RawSolid) → raw.kind ≡ 2 → ((s : block.Block) → block_fields s ≡ raw → ⊥) → (s : CatalogueSolid) → raw_of s ≡ raw → ⊥
no_block raw k none (Ball s) e = omega (arith, ap (λ (r : RawSolid). r.kind) e)
no_block raw k none (Block s) e = none s e
no_block raw k none (Plane s) e = omega (arith, ap (λ (r : RawSolid). r.kind) e)
no_block raw k none (Drum s) e = omega (arith, ap (λ (r : RawSolid). r.kind) e)

no_plane : (raw : RawSolid) → raw.kind ≡ 3 → ((s : plane.Plane) → plane_fields s ≡ raw → ⊥) → (s : CatalogueSolid) → raw_of s ≡ raw → ⊥
no_plane raw k none (Ball s) e = omega (arith, ap (λ (r : RawSolid). r.kind) e)
no_plane raw k none (Block s) e = omega (arith, ap (λ (r : RawSolid). r.kind) e)
no_plane raw k none (Plane s) e = none s e
no_plane raw k none (Drum s) e = omega (arith, ap (λ (r : RawSolid). r.kind) e)

pub returns-in_err-read_ball-in-1 : goal.returns-in_err-read_ball-in-1
returns-in_err-read_ball-in-1 c = rw c.from_residual.ensures (no_ball c.args.raw c.in-1.is c.in_err-read_ball-in-1.ensures)

pub returns-in_err-read_block-in-2 : goal.returns-in_err-read_block-in-2
returns-in_err-read_block-in-2 c = rw c.from_residual-in_err-read_block-in-2.ensures (no_block c.args.raw c.in-2.is c.in_err-read_block-in-2.ensures)

pub returns-in_err-read_plane-in-3 : goal.returns-in_err-read_plane-in-3
returns-in_err-read_plane-in-3 c = rw c.from_residual-in_err-read_plane-in-3.ensures (no_plane c.args.raw c.in-3.is c.in_err-read_plane-in-3.ensures)
