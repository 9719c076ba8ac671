pub mod Buffer
pub mod Geometry
pub mod GeometryFields
pub mod Laws
