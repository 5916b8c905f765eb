-- When two signatures are the same: the parameters and the results in order, each with its type and attributes, and the
-- convention.
use Rattle.std.specs.Prelude.{List, [], ◌∷◌, Bool, true, false, ◌&&◌}
use Rattle.clk_num.specs.Width.{same}
use Rattle.ir_core.specs.declared.signatures.Sig.{Sig}
use Rattle.ir_core.specs.declared.signatures.Param.{Param}
use Rattle.ir_core.specs.declared.signatures.Conv.{Conv}
use Rattle.ir_core.specs.declared.signatures.Conv.TheVariants.{Fast, Cold, Tail, SystemV, WindowsFastcall, AppleAarch64}
use Rattle.ir_core.specs.declared.signatures.Conv.TheVariants.{Probestack, Winch}
use Rattle.ir_core.specs.declared.signatures.Ext.{Ext}
use Rattle.ir_core.specs.declared.signatures.Ext.TheVariants as ext
use Rattle.ir_core.specs.declared.signatures.Purpose.{Purpose}
use Rattle.ir_core.specs.declared.signatures.Purpose.TheVariants as purpose
use Rattle.ir_core.specs.declared.signatures.Ty.{Ty}
use Rattle.ir_core.specs.Lookup.{width_of}

abbrev pub same_type : Ty → Ty → Bool
same_type a b = same (width_of a) (width_of b)

abbrev pub same_ext : Ext → Ext → Bool
same_ext ext.No ext.No = true
same_ext ext.Uext ext.Uext = true
same_ext ext.Sext ext.Sext = true
same_ext _ _ = false

abbrev pub same_purpose : Purpose → Purpose → Bool
same_purpose purpose.Normal purpose.Normal = true
same_purpose purpose.Vmctx purpose.Vmctx = true
same_purpose purpose.Sret purpose.Sret = true
same_purpose _ _ = false

abbrev pub same_conv : Conv → Conv → Bool
same_conv Fast Fast = true
same_conv Cold Cold = true
same_conv Tail Tail = true
same_conv SystemV SystemV = true
same_conv WindowsFastcall WindowsFastcall = true
same_conv AppleAarch64 AppleAarch64 = true
same_conv Probestack Probestack = true
same_conv Winch Winch = true
same_conv _ _ = false

abbrev pub same_param : Param → Param → Bool
same_param a b = same_type a.ty b.ty && same_ext a.ext b.ext && same_purpose a.purpose b.purpose

abbrev pub same_params : List Param → List Param → Bool
same_params [] [] = true
same_params (a ∷ as') (b ∷ bs) = same_param a b && same_params as' bs
same_params [] (b ∷ bs) = false
same_params (a ∷ as') [] = false

unfoldable pub same_sig : Sig → Sig → Bool
same_sig a b = same_params a.params b.params && same_params a.results b.results && same_conv a.conv b.conv
