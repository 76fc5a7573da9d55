use Rattle.tinyjson_bytes.proofs.Vectors.{both_ends}
use Rattle.tinyjson_bytes.proofs.copies.copy_ends.Goals as goal

pub returns-clause-copied : goal.returns-clause-copied
returns-clause-copied g c = both_ends g.row.N c.args.at c.args.target.now c.args.bytes.now c.requires.count.0 c.requires.count.1
    c.requires.fits
