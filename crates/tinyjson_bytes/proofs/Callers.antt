-- For proofs of callers: scans over bytes of their own, a vector at a time.
pub use Rattle.tinyjson_bytes.proofs.Scans.{at_most, from_splat, hit, masked}
