-- The control record of what is sent. The layout is SAP's (SAP Library, IDoc interface, control record); which fields are
-- set, and to what, is this project's own.
use Rattle.std.specs.Prelude.{◌≡◌, ℕ, ◌+◌, List, [], ◌∷◌, All, codes}
use Rattle.std.specs.Option.{option_map_or}
use Rattle.idoc_record.specs.declared.control_field.ControlField.{ControlField}
use Rattle.idoc_record.specs.declared.control_field.ControlField.TheVariants.{Tabnam, Mandt, Docnum, Status, Direct, Outmod, Idoctyp, Mestyp, Mescod, Mesfct}
use Rattle.idoc_record.specs.declared.control_field.ControlField.TheVariants.{Sndprt, Sndprn, Rcvpor, Rcvprt, Rcvprn, Credat, Cretim, Refint, Refgrp, Refmes}
use Rattle.idoc_record.specs.declared.control_field.ControlField.TheVariants.{Arckey, Serial, Docrel, Exprss, Test, Cimtyp, Std, Stdvrs}
use Rattle.idoc_record.specs.declared.control_field.ControlField.TheVariants.{Stdmes, Sndpor, Sndpfc, Sndsad, Sndlad, Rcvpfc, Rcvsad, Rcvlad}
use Rattle.idoc_record.specs.Control.{field_of}
use Rattle.idoc_record.specs.Digits.{decimal_digits}
use Rattle.dist_model.specs.declared.lists.Lists.{Lists}
use Rattle.dist_model.specs.declared.outbound.Outbound.{Outbound}
use Rattle.dist_model.specs.Named.{idoc_type_name_of, message_name, reduced_name, system_at, system_name}

-- the client of a system
abbrev pub client_of : Lists → ℕ → List ℕ
client_of model number = option_map_or (λ system. system.client) (system_at model number) []

-- the name of what a profile sends: that of its reduced message type where it has one, and else that of its message type
abbrev pub sent_name : Lists → Outbound → List ℕ
sent_name model profile = option_map_or (reduced_name model) profile.reduced (message_name model profile.message)

-- the text of each field, by the profile, the number of the document and the control record of the master
abbrev pub control_text : Lists → Outbound → ℕ → List ℕ → ControlField → List ℕ
control_text model profile number master Tabnam = codes "EDI_DC40"
control_text model profile number master Mandt = client_of model profile.sender
control_text model profile number master Docnum = decimal_digits 16 number
control_text model profile number master Status = codes "30"
control_text model profile number master Direct = codes "1"
control_text model profile number master Outmod = (48 + profile.outmod) ∷ []
control_text model profile number master Idoctyp = idoc_type_name_of model profile.message
control_text model profile number master Mestyp = sent_name model profile
control_text model profile number master Mescod = field_of master Mescod
control_text model profile number master Mesfct = field_of master Mesfct
control_text model profile number master Sndprt = codes "LS"
control_text model profile number master Sndprn = system_name model profile.sender
control_text model profile number master Rcvpor = profile.port
control_text model profile number master Rcvprt = codes "LS"
control_text model profile number master Rcvprn = system_name model profile.receiver
control_text model profile number master Credat = field_of master Credat
control_text model profile number master Cretim = field_of master Cretim
control_text model profile number master Refint = field_of master Refint
control_text model profile number master Refgrp = field_of master Refgrp
control_text model profile number master Refmes = field_of master Refmes
control_text model profile number master Arckey = field_of master Arckey
control_text model profile number master Serial = field_of master Serial
control_text model profile number master _ = []

-- the fields of a control record that are blank in what is sent, whatever the master has there
abbrev pub blank_fields : List ControlField
blank_fields =
    Docrel ∷ Exprss ∷ Test ∷ Cimtyp ∷ Std ∷ Stdvrs ∷ Stdmes ∷ Sndpor ∷ Sndpfc ∷ Sndsad ∷ Sndlad ∷ Rcvpfc ∷ Rcvsad ∷ Rcvlad ∷ []

-- the fields of a control record that must be blank are
abbrev pub HasBlanks : List ℕ → Type 0
HasBlanks control = All (λ field. field_of control field ≡ []) blank_fields
