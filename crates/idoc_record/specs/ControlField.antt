-- The layout of the control record EDI_DC40, 524 bytes. Source: SAP Library, IDoc interface, control record.
use Rattle.std.specs.Prelude.{ℕ, ◌==◌, List, [], ◌∷◌, codes, Bool}
use Rattle.idoc_record.specs.declared.span.Span.{Span}
use Rattle.idoc_record.specs.declared.control_field.ControlField.{ControlField}
use Rattle.idoc_record.specs.declared.control_field.ControlField.TheVariants.{Tabnam, Mandt, Docnum, Docrel, Status, Direct, Outmod, Exprss, Test, Idoctyp}
use Rattle.idoc_record.specs.declared.control_field.ControlField.TheVariants.{Cimtyp, Mestyp, Mescod, Mesfct, Std, Stdvrs, Stdmes, Sndpor, Sndprt, Sndpfc}
use Rattle.idoc_record.specs.declared.control_field.ControlField.TheVariants.{Sndprn, Sndsad, Sndlad, Rcvpor, Rcvprt, Rcvpfc, Rcvprn, Rcvsad, Rcvlad, Credat}
use Rattle.idoc_record.specs.declared.control_field.ControlField.TheVariants.{Cretim, Refint, Refgrp, Refmes, Arckey, Serial}

-- a place by its two numbers
abbrev pub span : ℕ → ℕ → Span
span offset length = record { offset = offset; length = length }

-- where a field stands: its offset from 0, and its length, in bytes
abbrev pub span_of : ControlField → Span
span_of Tabnam = span 0 10
span_of Mandt = span 10 3
span_of Docnum = span 13 16
span_of Docrel = span 29 4
span_of Status = span 33 2
span_of Direct = span 35 1
span_of Outmod = span 36 1
span_of Exprss = span 37 1
span_of Test = span 38 1
span_of Idoctyp = span 39 30
span_of Cimtyp = span 69 30
span_of Mestyp = span 99 30
span_of Mescod = span 129 3
span_of Mesfct = span 132 3
span_of Std = span 135 1
span_of Stdvrs = span 136 6
span_of Stdmes = span 142 6
span_of Sndpor = span 148 10
span_of Sndprt = span 158 2
span_of Sndpfc = span 160 2
span_of Sndprn = span 162 10
span_of Sndsad = span 172 21
span_of Sndlad = span 193 70
span_of Rcvpor = span 263 10
span_of Rcvprt = span 273 2
span_of Rcvpfc = span 275 2
span_of Rcvprn = span 277 10
span_of Rcvsad = span 287 21
span_of Rcvlad = span 308 70
span_of Credat = span 378 8
span_of Cretim = span 386 6
span_of Refint = span 392 14
span_of Refgrp = span 406 14
span_of Refmes = span 420 14
span_of Arckey = span 434 70
span_of Serial = span 504 20

-- the name of a field
abbrev pub name_of : ControlField → List ℕ
name_of Tabnam = codes "TABNAM"
name_of Mandt = codes "MANDT"
name_of Docnum = codes "DOCNUM"
name_of Docrel = codes "DOCREL"
name_of Status = codes "STATUS"
name_of Direct = codes "DIRECT"
name_of Outmod = codes "OUTMOD"
name_of Exprss = codes "EXPRSS"
name_of Test = codes "TEST"
name_of Idoctyp = codes "IDOCTYP"
name_of Cimtyp = codes "CIMTYP"
name_of Mestyp = codes "MESTYP"
name_of Mescod = codes "MESCOD"
name_of Mesfct = codes "MESFCT"
name_of Std = codes "STD"
name_of Stdvrs = codes "STDVRS"
name_of Stdmes = codes "STDMES"
name_of Sndpor = codes "SNDPOR"
name_of Sndprt = codes "SNDPRT"
name_of Sndpfc = codes "SNDPFC"
name_of Sndprn = codes "SNDPRN"
name_of Sndsad = codes "SNDSAD"
name_of Sndlad = codes "SNDLAD"
name_of Rcvpor = codes "RCVPOR"
name_of Rcvprt = codes "RCVPRT"
name_of Rcvpfc = codes "RCVPFC"
name_of Rcvprn = codes "RCVPRN"
name_of Rcvsad = codes "RCVSAD"
name_of Rcvlad = codes "RCVLAD"
name_of Credat = codes "CREDAT"
name_of Cretim = codes "CRETIM"
name_of Refint = codes "REFINT"
name_of Refgrp = codes "REFGRP"
name_of Refmes = codes "REFMES"
name_of Arckey = codes "ARCKEY"
name_of Serial = codes "SERIAL"

-- all fields, in the order of the record
unfoldable pub all_fields : List ControlField
all_fields =
    Tabnam ∷ Mandt ∷ Docnum ∷ Docrel ∷ Status ∷ Direct ∷ Outmod ∷ Exprss ∷ Test ∷ Idoctyp ∷ Cimtyp ∷ Mestyp ∷
    Mescod ∷ Mesfct ∷ Std ∷ Stdvrs ∷ Stdmes ∷ Sndpor ∷ Sndprt ∷ Sndpfc ∷ Sndprn ∷ Sndsad ∷ Sndlad ∷ Rcvpor ∷
    Rcvprt ∷ Rcvpfc ∷ Rcvprn ∷ Rcvsad ∷ Rcvlad ∷ Credat ∷ Cretim ∷ Refint ∷ Refgrp ∷ Refmes ∷ Arckey ∷
    Serial ∷ []

-- two fields are one, which their offsets tell
abbrev pub is_field : ControlField → ControlField → Bool
is_field field other = (span_of field).offset == (span_of other).offset
