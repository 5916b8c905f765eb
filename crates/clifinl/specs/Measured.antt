-- The summary that the code's type shows.
use Rattle.clifinl.specs.declared.summary.Summary.{Summary}
use Rattle.clifinl.specs.GenCommand as spec

abbrev pub measured : Summary → spec.Summary
measured s = record {
  functions = s.functions;
  sites = s.sites;
  inlined = s.inlined;
  size_before = s.size_before;
  size_after = s.size_after;
  steps = s.steps;
}
