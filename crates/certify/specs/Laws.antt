-- What a certificate says.
use Rattle.net_types.specs.NetFacts.{IsNet}
use Rattle.net_types.specs.NetValue.{NetValue}
use Rattle.property_book.specs.declared.property.Property.{Property}
use Rattle.property_book.specs.Meaning.{Holds}
use Rattle.certify.specs.Verdicts.{IsCertified}

-- a certified property holds
abbrev pub CertificatesHold : Type 0
CertificatesHold = (net : NetValue) (property : Property) → IsNet net → IsCertified net property → Holds net property
