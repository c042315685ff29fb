use Rattle.std.proofs.Common.{◌≡◌, ◌*◌, take, drop, bit_xor}
use Rattle.std.specs.Simd.Lanes.{zip2}
use Rattle.bar_lanes.proofs.bytes.xor_into.Given as goal

abbrev pub invariant-wide : goal.invariant-wide
invariant-wide l = record {
  done : take (32 * l.i) l.dst ≡ zip2 bit_xor (take (32 * l.i) l.fn.dst) (take (32 * l.i) l.src);
  rest : drop (32 * l.i) l.dst ≡ drop (32 * l.i) l.fn.dst;
}

abbrev pub invariant-narrow : goal.invariant-narrow
invariant-narrow l = record {
  done : take l.k l.dst ≡ zip2 bit_xor (take l.k l.fn.dst) (take l.k l.src);
  rest : drop l.k l.dst ≡ drop l.k l.fn.dst;
}
