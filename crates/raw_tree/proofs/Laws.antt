-- What contracts say of all documents and of all arrays.
use Rattle.raw_tree.proofs.Common.{AllAreValidatedOneWay, AllAreReadOneWay, as_document, as_array}
use Rattle.raw_tree.proofs.validator.OneBreach.{validated_one_way}
use Rattle.raw_tree.proofs.reader.OneWay.{bytes_one_way}

pub documents_read : AllAreReadOneWay as_document
documents_read = bytes_one_way as_document

pub arrays_read : AllAreReadOneWay as_array
arrays_read = bytes_one_way as_array

pub documents_validated : AllAreValidatedOneWay as_document
documents_validated = validated_one_way as_document
